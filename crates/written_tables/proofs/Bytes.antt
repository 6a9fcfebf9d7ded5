-- The messages of a batch are bytes.
use Rattle.std.proofs.Common.{ℕ, zero, suc, ◌/◌, ◌%◌, ◌^◌, ◌+◌, ◌<◌, Bool, true, false, List, [], ◌∷◌, ◌++◌, map}
use Rattle.std.proofs.Common.{length}
use Rattle.std.proofs.Common.{Option, Some, None, unwrap_or, arith}
use Rattle.std.proofs.lemmas.List.Elements.{recursion_from_All}
use Rattle.std.specs.Int.{byte_at}
use Rattle.std.specs.Prelude.{IfSome, replicate}
use Rattle.std.specs.List.{AllByRecursion}
use Rattle.byteorder.specs.Endian.{big_bytes}
use Rattle.install_plan.specs.declared.written.Batch.{Batch}
use Rattle.install_plan.specs.declared.written.Written.{Written}
use Rattle.of10_actions.specs.Actions.{FitsTypes as ActionFits}
use Rattle.of10_actions.specs.Kinds.{length_of, number_of, type_of}
use Rattle.of10_actions.specs.Spelling.{arguments, padding, spelling as action_bytes, spellings, start}
use Rattle.of10_actions.specs.declared.action.Action.{Action}
use Rattle.of10_actions.specs.declared.action.Action.TheVariants as actions
use Rattle.of10_actions.specs.declared.kind.Kind.{Kind}
use Rattle.of10_frames.specs.Wire.{header_bytes}
use Rattle.of10_match.specs.Fields.{MatchOf}
use Rattle.of10_match.specs.Matching.{everything}
use Rattle.of10_match.specs.Ranges.{IsMatch, IsTos}
use Rattle.of10_match.specs.OfpMatchFields.{link_bytes, network_bytes}
use Rattle.of10_match.specs.Wildcards.{match_bytes, written}
use Rattle.of10_match.specs.declared.ofp_match.OfpMatch.{OfpMatch}
use Rattle.of10_msgs.specs.Spelling.{body_bytes, flow_mod_fields, spelling}
use Rattle.of10_msgs.specs.declared.message.Body.{Body}
use Rattle.of10_msgs.specs.declared.message.Body.TheVariants as bodies
use Rattle.of10_msgs.specs.declared.message.FlowMod.{FlowMod as FlowModOf}
use Rattle.switch_state.specs.Messages.{addition, batch_messages, beginning, delete_strict, flow_mod, phase}
use Rattle.switch_state.specs.Messages.{switch_messages}
use Rattle.switch_state.specs.Sending.{Sending, next_xid, send, send_all}
use Rattle.switch_state.proofs.Fitting.{all_joined, all_of_phase}
use Rattle.machine_meaning.proofs.FitEntries.{IsFit}

abbrev pub AreBytes : List ℕ → Type 0
AreBytes bytes = AllByRecursion (λ byte. byte < 256) bytes

both : (xs ys : List ℕ) → AreBytes xs → AreBytes ys → AreBytes (xs ++ ys)
both xs ys a b = all_joined (λ byte. byte < 256) xs ys a b

under : (y : ℕ) → y % 256 < 256
under y = omega arith

at_under : (k x : ℕ) → byte_at k x < 256
at_under zero x = under x
at_under (suc k) x = under (x / 256 ^ suc k)

number : (n x : ℕ) → AreBytes (big_bytes n x)
number zero x = tt
number (suc n) x = (at_under n x, number n x)

zeros : (n : ℕ) → AreBytes (replicate n 0)
zeros zero = tt
zeros (suc n) = (omega arith, zeros n)

-- a number that may be absent
given : (o : Option ℕ) → IfSome o (λ v. v < 256) → unwrap_or o 0 < 256
given None h = omega arith
given (Some v) h = h

weaker : (P : ℕ → Type 0) → ((v : ℕ) → P v → v < 256) → (o : Option ℕ) → IfSome o P → IfSome o (λ v. v < 256)
weaker P f None h = tt
weaker P f (Some v) h = f v h

-- a number, and what follows it
joined : (n x : ℕ) (rest : List ℕ) → AreBytes rest → AreBytes (big_bytes n x ++ rest)
joined n x rest h = both (big_bytes n x) rest (number n x) h

link_are : (w : OfpMatch) → w.dl_vlan_pcp < 256 → AreBytes (link_bytes w)
link_are w h =
    let tag = w.dl_vlan_pcp ∷ 0 ∷ [] in
    let vlan = big_bytes 2 w.dl_vlan ++ tag in
    let dst = big_bytes 6 w.dl_dst ++ vlan in
    let src = big_bytes 6 w.dl_src ++ dst in
    joined 4 w.wildcards (big_bytes 2 w.in_port ++ src)
    (joined 2 w.in_port src (joined 6 w.dl_src dst (joined 6 w.dl_dst vlan (joined 2 w.dl_vlan tag
    (h, (omega arith, tt))))))

network_are : (w : OfpMatch) → w.nw_tos < 256 → w.nw_proto < 256 → AreBytes (network_bytes w)
network_are w tos proto =
    let ports = big_bytes 2 w.tp_src ++ big_bytes 2 w.tp_dst in
    let dst = big_bytes 4 w.nw_dst ++ ports in
    let src = big_bytes 4 w.nw_src ++ dst in
    joined 2 w.dl_type (w.nw_tos ∷ w.nw_proto ∷ 0 ∷ 0 ∷ src) (
      tos,
      (
        proto,
        (
          omega arith,
          (
            omega arith,
            joined 4 w.nw_src dst (joined 4 w.nw_dst ports
                (joined 2 w.tp_src (big_bytes 2 w.tp_dst) (number 2 w.tp_dst))),
          ),
        ),
      ),
    )

match_are : (m : MatchOf) → IsMatch m → AreBytes (match_bytes m)
match_are m h =
    let w = written m in
    both (link_bytes w) (network_bytes w)
    (link_are w (given m.dl_vlan_pcp (weaker (λ v. v < 8) (λ v lt. omega (arith, lt)) m.dl_vlan_pcp h.dl_vlan_pcp)))
    (network_are w (given m.nw_tos (weaker IsTos (λ v tos. tos.0) m.nw_tos h.nw_tos))
    (given m.nw_proto (weaker (λ v. v < 2 ^ 8) (λ v lt. omega (arith, lt)) m.nw_proto h.nw_proto)))

starts : (kind : Kind) → AreBytes (start kind)
starts kind = joined 2 (number_of kind) (big_bytes 2 (length_of kind)) (number 2 (length_of kind))

-- an action's arguments, with zeros behind them
arguments_are : (a : Action) → ActionFits a → AreBytes (arguments a 0 (replicate (padding a) 0))
arguments_are (actions.Output port len) h = joined 2 port (big_bytes 2 len ++ []) (joined 2 len [] tt)
arguments_are (actions.SetVlanVid vid) h = joined 2 vid (replicate 2 0) (zeros 2)
arguments_are (actions.SetVlanPcp pcp) h = (omega (arith, h), zeros 3)
arguments_are actions.StripVlan h = zeros 4
arguments_are (actions.SetDlSrc address) h = joined 6 address (replicate 6 0) (zeros 6)
arguments_are (actions.SetDlDst address) h = joined 6 address (replicate 6 0) (zeros 6)
arguments_are (actions.SetNwSrc address) h = joined 4 address [] tt
arguments_are (actions.SetNwDst address) h = joined 4 address [] tt
arguments_are (actions.SetNwTos tos) h =
    let same : tos + 0 < 256 = omega (arith, h) in
    (same, zeros 3)
arguments_are (actions.SetTpSrc port) h = joined 2 port (replicate 2 0) (zeros 2)
arguments_are (actions.SetTpDst port) h = joined 2 port (replicate 2 0) (zeros 2)
arguments_are (actions.Enqueue port queue) h =
    joined 2 port (replicate 6 0 ++ big_bytes 4 queue)
    (both (replicate 6 0) (big_bytes 4 queue) (zeros 6) (number 4 queue))

action_are : (a : Action) → ActionFits a → AreBytes (action_bytes a)
action_are a h =
    both (start (type_of a)) (arguments a 0 (replicate (padding a) 0)) (starts (type_of a)) (arguments_are a h)

actions_are : (list : List Action) → AllByRecursion ActionFits list → AreBytes (spellings list)
actions_are [] h = tt
actions_are (a ∷ list) h = both (action_bytes a) (spellings list) (action_are a h.0) (actions_are list h.1)

-- messages ----------------------------------------------------------------------------------------------------------

-- whatever its xid, the message of a body is bytes
abbrev IsOfBytes : Body → Type 0
IsOfBytes body = (xid : ℕ) → AreBytes (spelling (record { xid = xid; body = body }))

header : (kind len xid : ℕ) → kind < 256 → AreBytes (header_bytes kind len xid)
header kind len xid lt = (omega arith, (lt, both (big_bytes 2 len) (big_bytes 4 xid) (number 2 len) (number 4 xid)))

barrier_are : IsOfBytes bodies.BarrierRequest
unfolding body_bytes
barrier_are xid = both (header_bytes 18 8 xid) [] (header 18 8 xid (omega arith)) tt

config_are : IsOfBytes (bodies.SetConfig 0 0xffff)
unfolding body_bytes
config_are xid =
    both (header_bytes 9 12 xid) (big_bytes 2 0 ++ big_bytes 2 0xffff) (header 9 12 xid (omega arith))
    (joined 2 0 (big_bytes 2 0xffff) (number 2 0xffff))

module _ (m : MatchOf) (cookie command priority flags : ℕ) (list : List Action) (in_range : IsMatch m)
    (fits : AllByRecursion ActionFits list) where
  abbrev f : FlowModOf
  f = flow_mod m cookie command priority flags list

  fields_are : AreBytes (flow_mod_fields f)
  unfolding flow_mod_fields
  fields_are =
      let last = big_bytes 2 0xffff ++ big_bytes 2 flags in
      let buffer = big_bytes 4 0xffffffff ++ last in
      let rank = big_bytes 2 priority ++ buffer in
      let hard = big_bytes 2 0 ++ rank in
      let idle = big_bytes 2 0 ++ hard in
      joined 8 cookie (big_bytes 2 command ++ idle)
      (joined 2 command idle (joined 2 0 hard (joined 2 0 rank (joined 2 priority buffer
      (joined 4 0xffffffff last (joined 2 0xffff (big_bytes 2 flags) (number 2 flags)))))))

  body_are : AreBytes (body_bytes (bodies.FlowMod f))
  unfolding body_bytes
  body_are =
      both (match_bytes m) (flow_mod_fields f ++ spellings list) (match_are m in_range)
      (both (flow_mod_fields f) (spellings list) fields_are (actions_are list fits))

  flow_mod_are : IsOfBytes (bodies.FlowMod f)
  flow_mod_are xid =
      let body = body_bytes (bodies.FlowMod f) in
      both (header_bytes 14 (8 + length body) xid) body (header 14 (8 + length body) xid (omega arith)) body_are

no_fields : IsMatch everything
no_fields = record {
  in_port = tt;
  dl_src = tt;
  dl_dst = tt;
  dl_vlan = tt;
  dl_vlan_pcp = tt;
  dl_type = tt;
  nw_tos = tt;
  nw_proto = tt;
  nw_src = tt;
  nw_dst = tt;
  tp_src = tt;
  tp_dst = tt;
}

deletions_are : (ws : List Written) → AllByRecursion IsFit ws → AllByRecursion IsOfBytes (map delete_strict ws)
deletions_are [] h = tt
deletions_are (w ∷ ws) h = (
  flow_mod_are w.entry.m w.cookie 4 w.entry.priority 0 [] h.0.entry.match_in_range tt,
  deletions_are ws h.1,
)

additions_are : (ws : List Written) → AllByRecursion IsFit ws → AllByRecursion IsOfBytes (map addition ws)
additions_are [] h = tt
additions_are (w ∷ ws) h = (
  flow_mod_are w.entry.m w.cookie 0 w.entry.priority 1 w.entry.actions h.0.entry.match_in_range
      (recursion_from_All ActionFits w.entry.actions h.0.entry.types),
  additions_are ws h.1,
)

beginning_are : (begins : Bool) → AllByRecursion IsOfBytes (beginning begins)
beginning_are true = (config_are, (flow_mod_are everything 0 3 0 0 [] no_fields tt, (barrier_are, tt)))
beginning_are false = tt

-- the messages of a batch whose entries can be written
messages_are : (begins : Bool) (b : Batch) → AllByRecursion IsFit b.deletes → AllByRecursion IsFit b.adds
    → AllByRecursion IsOfBytes (switch_messages begins b)
messages_are begins b deletes adds =
    all_joined IsOfBytes (beginning begins) (batch_messages b) (beginning_are begins)
    (all_joined IsOfBytes (phase (map delete_strict b.deletes)) (phase (map addition b.adds))
    (all_of_phase IsOfBytes barrier_are (map delete_strict b.deletes) (deletions_are b.deletes deletes))
    (all_of_phase IsOfBytes barrier_are (map addition b.adds) (additions_are b.adds adds)))

sent_are : (all : List Body) (s : Sending) → AllByRecursion IsOfBytes all → AllByRecursion AreBytes s.messages
    → AllByRecursion AreBytes (send_all all s).messages
sent_are [] s h k = k
sent_are (body ∷ all) s h k =
    let message = spelling (record { xid = next_xid s.known.xid; body = body }) in
    sent_are all (send s body) h.1
    (all_joined AreBytes s.messages (message ∷ []) k (h.0 (next_xid s.known.xid), tt))

pub batch_are : (begins : Bool) (b : Batch) (s : Sending) → AllByRecursion IsFit b.deletes
    → AllByRecursion IsFit b.adds → AllByRecursion AreBytes s.messages
    → AllByRecursion AreBytes (send_all (switch_messages begins b) s).messages
batch_are begins b s deletes adds k = sent_are (switch_messages begins b) s (messages_are begins b deletes adds) k
