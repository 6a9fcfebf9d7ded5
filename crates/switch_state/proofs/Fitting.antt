-- What switches are sent can be written.
use Rattle.std.proofs.Common.{◌≡◌, ◌<◌, ◌^◌, ℕ, ◌+◌, List, [], ◌∷◌, ◌++◌, length, map, refl, arith, length-append}
use Rattle.std.specs.List.{AllByRecursion}
use Rattle.std.proofs.lemmas.Bool.{le-leb}
use Rattle.install_plan.specs.declared.written.Batch.{Batch}
use Rattle.install_plan.specs.declared.written.Written.{Written}
use Rattle.std.proofs.lemmas.List.Elements.{All-from_recursion}
use Rattle.of10_actions.specs.Actions.{AreInRange, IsInRange}
use Rattle.of10_actions.specs.declared.action.Action.TheVariants.{Output}
use Rattle.of10_actions.specs.Spelling.{spellings}
use Rattle.of10_match.specs.Fields.{MatchOf}
use Rattle.of10_match.specs.Matching.{everything}
use Rattle.of10_match.specs.Wildcards.{match_bytes}
use Rattle.of10_msgs.specs.Ranges.{CanWrite, IsClear}
use Rattle.of10_msgs.specs.Spelling.{body_bytes, flow_mod_fields, packet_out_fields}
use Rattle.of10_msgs.specs.declared.message.Body.{Body}
use Rattle.of10_msgs.specs.declared.message.Body.TheVariants as bodies
use Rattle.of10_msgs.specs.declared.message.FlowMod.{FlowMod}
use Rattle.switch_state.specs.Fitting.{CanAdd, CanSend}
use Rattle.switch_state.specs.Messages.{addition, batch_messages, delete_all, delete_strict, flow_mod, flow_request}
use Rattle.switch_state.specs.Messages.{installation, packet_out, phase, port_request}

pub all_joined : {A : Type 0} (P : A → Type 0) (xs ys : List A) → AllByRecursion P xs → AllByRecursion P ys
    → AllByRecursion P (xs ++ ys)
all_joined P [] ys a b = b
all_joined P (x ∷ xs) ys a b = (a.0, all_joined P xs ys a.1 b)

-- a match is written with zero padding, in 40 bytes
pub match_clear : (m : MatchOf) → IsClear (match_bytes m)
match_clear m = refl

pub match_long : (m : MatchOf) → length (match_bytes m) ≡ 40
match_long m = refl

flow_mod_long : (f : FlowMod) → length f.m ≡ 40
    → length (body_bytes (bodies.FlowMod f)) ≡ 64 + length (spellings f.actions)
unfolding body_bytes flow_mod_fields
flow_mod_long f long = rw length-append (omega (arith, long))

-- a FLOW_MOD whose actions are in range, and fit
flow_mod_fits : (f : FlowMod) → length f.m ≡ 40 → IsClear f.m → AreInRange f.actions
    → 72 + length (spellings f.actions) < 2 ^ 16 → CanWrite (bodies.FlowMod f)
flow_mod_fits f long clear in_range fits =
    let size = flow_mod_long f long in
    record { long = le-leb 72 _ (omega (arith, size)); fits = omega (arith, size, fits); in_range = (clear, in_range) }

none_in_range : AreInRange []
none_in_range = All-from_recursion IsInRange [] tt

pub delete_all_fits : CanWrite delete_all
delete_all_fits = flow_mod_fits (flow_mod everything 0 3 0 0 []) refl refl none_in_range (omega arith)

pub delete_strict_fits : (w : Written) → CanWrite (delete_strict w)
delete_strict_fits w = flow_mod_fits (flow_mod w.entry.m w.cookie 4 w.entry.priority 0 []) (match_long w.entry.m)
    (match_clear w.entry.m) none_in_range (omega arith)

pub addition_fits : (w : Written) → CanAdd w → CanWrite (addition w)
addition_fits w c = flow_mod_fits (flow_mod w.entry.m w.cookie 0 w.entry.priority 1 w.entry.actions)
    (match_long w.entry.m) (match_clear w.entry.m) c.in_range c.fits

pub set_config_fits : CanWrite (bodies.SetConfig 0 0xffff)
unfolding body_bytes
set_config_fits = record { long = refl; fits = omega arith; in_range = tt }

pub barrier_fits : CanWrite bodies.BarrierRequest
unfolding body_bytes
barrier_fits = record { long = refl; fits = omega arith; in_range = tt }

pub installation_fits : AllByRecursion CanWrite installation
installation_fits = (set_config_fits, (delete_all_fits, (barrier_fits, tt)))

-- what holds of barriers, and of the messages of a phase
pub all_of_phase : (P : Body → Type 0) → P bodies.BarrierRequest → (bs : List Body) → AllByRecursion P bs
    → AllByRecursion P (phase bs)
all_of_phase P p [] a = tt
all_of_phase P p (b ∷ bs) a = all_joined P (b ∷ bs) (bodies.BarrierRequest ∷ []) a (p, tt)

phase_fits : (bs : List Body) → AllByRecursion CanWrite bs → AllByRecursion CanWrite (phase bs)
phase_fits = all_of_phase CanWrite barrier_fits

deletions_fit : (ws : List Written) → AllByRecursion CanWrite (map delete_strict ws)
deletions_fit [] = tt
deletions_fit (w ∷ ws) = (delete_strict_fits w, deletions_fit ws)

additions_fit : (ws : List Written) → AllByRecursion CanAdd ws → AllByRecursion CanWrite (map addition ws)
additions_fit [] a = tt
additions_fit (w ∷ ws) a = (addition_fits w a.0, additions_fit ws a.1)

pub batch_fits : (b : Batch) → CanSend b → AllByRecursion CanWrite (batch_messages b)
batch_fits b can =
    all_joined CanWrite (phase (map delete_strict b.deletes)) (phase (map addition b.adds))
    (phase_fits (map delete_strict b.deletes) (deletions_fit b.deletes))
    (phase_fits (map addition b.adds) (additions_fit b.adds can))

-- a request for statistics

pub flow_request_fits : CanWrite flow_request
unfolding body_bytes
flow_request_fits = record { long = refl; fits = omega arith; in_range = tt }

pub port_request_fits : CanWrite port_request
unfolding body_bytes
port_request_fits = record { long = refl; fits = omega arith; in_range = tt }

-- one action takes 8 bytes, and stands behind 16

packet_long : (port : ℕ) (bytes : List ℕ) → length (body_bytes (packet_out port bytes)) ≡ 16 + length bytes
unfolding body_bytes packet_out_fields
packet_long port bytes = omega arith

pub packet_fits : (port : ℕ) (bytes : List ℕ) → length bytes < 65512 → CanWrite (packet_out port bytes)
packet_fits port bytes short =
    let size = packet_long port bytes in
    record {
      long = le-leb 16 _ (omega (arith, size));
      fits = omega (arith, size, short);
      in_range = All-from_recursion IsInRange (Output port 0 ∷ []) (tt, tt);
    }

pub echo_fits : (bytes : List ℕ) → 8 + length bytes < 2 ^ 16 → CanWrite (bodies.EchoReply bytes)
unfolding body_bytes
echo_fits bytes short = record { long = le-leb 8 _ (omega arith); fits = short; in_range = tt }
