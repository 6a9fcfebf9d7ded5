-- PACKET_OUTs: how long their data is, and those without actions.
use Rattle.std.proofs.Common.{◌≡◌, ℕ, ◌+◌, ◌<◌, ◌≤◌, ◌^◌, true, false, List, [], ◌∷◌, ◌++◌}
use Rattle.std.proofs.Common.{length, length-append, refl, ap, ap₂, ◌∙◌, arith}
use Rattle.std.specs.Prelude.{◌==◌, filter_map, map}
use Rattle.std.proofs.lemmas.Bool.Decides.{nat_tests}
use Rattle.std.proofs.lemmas.List.{append-nil}
use Rattle.std.proofs.lemmas.List.Concat.{flat_map-cons}
use Rattle.agreement.specs.declared.state.Setting.{Setting}
use Rattle.of10_actions.specs.Spelling.{spelling, spellings}
use Rattle.of10_actions.specs.declared.action.Action.{Action}
use Rattle.of10_actions.specs.declared.action.Action.TheVariants as actions
use Rattle.of10_actions.specs.declared.effects.PortView.{PortView}
use Rattle.of10_match.specs.Fields.{HeaderOf}
use Rattle.of10_msgs.specs.Ranges.{CanWrite}
use Rattle.of10_msgs.specs.Spelling.{body_bytes, packet_out_fields}
use Rattle.of10_msgs.specs.declared.message.Body.TheVariants as bodies
use Rattle.of10_msgs.specs.declared.message.PacketOut.{PacketOut}
use Rattle.policy_meaning.specs.Walk.{nowhere}
use Rattle.pkt_bytes.specs.Headers.{header_in}
use Rattle.policies.specs.Policies.{PolicyOf}
use Rattle.policy_meaning.specs.declared.walking.Walked.{Walked}
use Rattle.machine_meaning.specs.Drafts.{Draft}
use Rattle.machine_meaning.specs.Packets.{gives, leaving, packet_goes, sent_in, telling}
use Rattle.machine_drafts.specs.Outcomes.{draft_in, state_in}
use Rattle.machine_meaning.specs.Settings.{setting_of}
use Rattle.machine_drafts.specs.declared.outcome.Outcome.{Outcome}
use Rattle.machine_meaning.specs.declared.said.Letter.{Letter}
use Rattle.machine_meaning.specs.declared.said.Sent.{Sent}

-- an action takes at least 8 bytes
length_action : (a : Action) → 8 ≤ length (spelling a)
length_action (actions.Output port max_len) = omega arith
length_action (actions.SetVlanVid vid) = omega arith
length_action (actions.SetVlanPcp pcp) = omega arith
length_action actions.StripVlan = omega arith
length_action (actions.SetDlSrc address) = omega arith
length_action (actions.SetDlDst address) = omega arith
length_action (actions.SetNwSrc address) = omega arith
length_action (actions.SetNwDst address) = omega arith
length_action (actions.SetNwTos tos) = omega arith
length_action (actions.SetTpSrc port) = omega arith
length_action (actions.SetTpDst port) = omega arith
length_action (actions.Enqueue port queue) = omega arith

length_some : (list : List Action) → (length list == 0) ≡ false → 8 ≤ length (spellings list)
length_some [] e = absurd (cc)
length_some (a ∷ list) e =
    omega
    (arith, ap length (flat_map-cons spelling a list), length-append (spelling a) (spellings list), length_action a)

-- what stands before the actions, the actions, and the data
length_whole : (m : PacketOut)
    → length (body_bytes (bodies.PacketOut m)) ≡ 8 + (length (spellings m.actions) + length m.bytes)
unfolding body_bytes packet_out_fields
length_whole m = omega (arith, length-append (spellings m.actions) m.bytes)

-- data behind an action is so short that it can leave, and be told of
pub data_short : (m : PacketOut) → CanWrite (bodies.PacketOut m) → (length m.actions == 0) ≡ false
    → length m.bytes < 65512
data_short m w some =
    let fits : 8 + length (body_bytes (bodies.PacketOut m)) < 2 ^ 16 = w.fits in
    omega (arith, length_whole m, length_some m.actions some)

-- without actions nothing leaves, and nobody is told
none_of : (list : List Action) → (length list == 0) ≡ true → list ≡ []
none_of [] e = refl
none_of (a ∷ list) e = let none : length (a ∷ list) ≡ 0 = grind (arith, nat_tests) in absurd (omega arith)

nothing_given : (s : Setting) (n : ℕ) (view : PortView) (m : PacketOut) (list : List Action) (h : HeaderOf) → list ≡ []
    → sent_in s n view (record m { actions = list }) h ≡ nowhere
nothing_given s n view m list h e = ap (λ (some : List Action). sent_in s n view (record m { actions = some }) h) e

pub nothing_sent : (s : Setting) (n : ℕ) (view : PortView) (m : PacketOut) (h : HeaderOf)
    → (length m.actions == 0) ≡ true → sent_in s n view m h ≡ nowhere
nothing_sent s n view m h e = nothing_given s n view m m.actions h (none_of m.actions e)

-- it is dropped
pub packet_dropped : (p : PolicyOf) (n : ℕ) (view : PortView) (m : PacketOut) (d : Draft)
    → (length m.actions == 0) ≡ true → packet_goes p n view m d ≡ d
packet_dropped p n view m d e =
    ap (λ (w : Walked). gives p m.bytes w d)
    (nothing_sent (setting_of p d.state) n view m (header_in m.in_port m.bytes) e)
    ∙ ap₂ (λ (ts : List Letter) (ss : List Sent). record d { told = ts; sent = ss }) (append-nil d.told)
    (append-nil d.sent)

-- what it gives is told and leaves
pub packet_given : (p : PolicyOf) (n : ℕ) (view : PortView) (m : PacketOut) (o : Outcome) (told : List Letter)
    (sent : List Sent) (w : Walked)
    → w ≡ sent_in (setting_of p (state_in o)) n view m (header_in m.in_port m.bytes)
    → told ≡ o.told ++ map (telling (length m.bytes) m.bytes) w.told
    → sent ≡ o.sent ++ filter_map (leaving p m.bytes) w.outs
    → draft_in (record o { told = told; sent = sent }) ≡ packet_goes p n view m (draft_in o)
packet_given p n view m o told sent w e t s =
    ap₂ (λ (ts : List Letter) (ss : List Sent). draft_in (record o { told = ts; sent = ss })) t s
    ∙ ap (λ (walked : Walked). gives p m.bytes walked (draft_in o)) e
