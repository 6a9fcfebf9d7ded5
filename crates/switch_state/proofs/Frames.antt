-- What is sent is read, and what is quiet changes nothing.
use Rattle.std.proofs.Common.{◌≡◌, ◌<◌, ◌^◌, ℕ, ◌+◌, Bool, true, false, List, [], ◌∷◌, ◌++◌, Ok, map}
use Rattle.std.proofs.Common.{refl, ap, sym, subst, ◌∙◌, append_assoc, append-nil, arith}
use Rattle.std.specs.Prelude.{◌==◌, All, if◌then◌else◌}
use Rattle.std.specs.BTreeSet.{insert_key}
use Rattle.std.specs.List.{AllByRecursion}
use Rattle.std.specs.Ordering.{nat_cmp}
use Rattle.std.proofs.lemmas.Bool.{eqb-false}
use Rattle.std.proofs.lemmas.List.Concat.{flat_map-append}
use Rattle.std.proofs.lemmas.List.Elements.{All-from_recursion}
use Rattle.install_plan.specs.declared.written.Written.{Written}
use Rattle.of10_actions.specs.Actions.{FitsTypes as ActionFits}
use Rattle.of10_actions.specs.declared.action.Action.{Action}
use Rattle.of10_actions.specs.declared.action.Action.TheVariants.{Output}
use Rattle.of10_match.specs.Fields.{MatchOf}
use Rattle.of10_match.specs.Matching.{everything}
use Rattle.of10_msgs.specs.Ranges.{FitsTypes}
use Rattle.of10_msgs.specs.Reading.{reading}
use Rattle.of10_msgs.specs.Spelling.{spelling}
use Rattle.of10_msgs.specs.declared.message.Body.{Body}
use Rattle.of10_msgs.specs.declared.message.Body.TheVariants as bodies
use Rattle.of10_msgs.proofs.Spelled.{written_is_read}
use Rattle.switch_state.specs.Fitting.{CanAdd}
use Rattle.switch_state.specs.Frames.{BatchIsSendable, HasTypes, IsQuiet, IsSendable, OthersAreSendable}
use Rattle.switch_state.specs.Frames.{QuietChangesNothing, SentIsRead, bodies_in, said_by}
use Rattle.switch_state.specs.Known.{KnownOf}
use Rattle.switch_state.specs.Messages.{addition, batch_messages, beginning, delete_strict, flow_mod, phase}
use Rattle.switch_state.specs.Sending.{Sending, known_after, next_xid, send}
use Rattle.switch_state.specs.Writing.{between_barriers, changes_of, in_first}
use Rattle.switch_state.proofs.Fitting.{addition_fits, all_joined, all_of_phase, barrier_fits, delete_all_fits}
use Rattle.switch_state.proofs.Fitting.{delete_strict_fits, flow_request_fits, match_long, packet_fits}
use Rattle.switch_state.proofs.Fitting.{port_request_fits, set_config_fits}

-- an xid has 32 bits
xid_fits : (xid : ℕ) → xid < 2 ^ 32 → next_xid xid < 2 ^ 32
xid_fits xid fits = by (xid == 4294967295) refl
  where
    by : (b : Bool) → (xid == 4294967295) ≡ b → (if b then 1 else xid + 1) < 2 ^ 32
    by true e = omega arith
    by false e = let n = eqb-false xid 4294967295 e in omega (arith, fits)

-- the xid of a message is noted
noted_by : (b : Bool) (x y : KnownOf) (xid : ℕ) → x.xid ≡ xid → y.xid ≡ xid → (if b then x else y).xid ≡ xid
noted_by true x y xid e f = e
noted_by false x y xid e f = f

noted : (body : Body) (xid : ℕ) (x : KnownOf) → (known_after body xid x).xid ≡ xid
noted bodies.BarrierRequest xid x = refl
noted (bodies.FlowMod f) xid x =
    let deleting = record x { xid = xid; deleted = insert_key nat_cmp x.deleted f.cookie } in
    noted_by (f.command == 4) deleting (record x { xid = xid }) xid refl refl
noted body xid x = refl

one_read : (body : Body) (s : Sending) → s.known.xid < 2 ^ 32 → IsSendable body
    → bodies_in (send s body).messages ≡ bodies_in s.messages ++ body ∷ []
one_read body s fits good =
    let xid = next_xid s.known.xid in
    let message = spelling (record { xid = xid; body = body }) in
    let read : reading message ≡ Ok (record { xid = xid; body = body }) =
    written_is_read (record { xid = xid; body = body })
    (record { xid = xid_fits s.known.xid fits; body = good.0; fits = good.1 }) in
    flat_map-append (λ frame. said_by (reading frame)) s.messages (message ∷ [])
    ∙ ap (λ (said : List Body). bodies_in s.messages ++ said)
    (append-nil (said_by (reading message)) ∙ ap said_by read)

pub sent_is_read : SentIsRead
sent_is_read [] s fits good = sym (append-nil (bodies_in s.messages))
sent_is_read (body ∷ bodies) s fits good =
    let xid : (send s body).known.xid < 2 ^ 32 = subst (λ (n : ℕ). n < 2 ^ 32)
    (sym (noted body (next_xid s.known.xid) s.known)) (xid_fits s.known.xid fits) in
    sent_is_read bodies (send s body) xid good.1
    ∙ (ap (λ (said : List Body). said ++ bodies) (one_read body s fits good.0)
    ∙ append_assoc (bodies_in s.messages) (body ∷ []) bodies)

-- what is quiet

quiet_alone : (others : List Body) → AllByRecursion IsQuiet others → between_barriers others ≡ [] ∷ []
quiet_alone [] quiet = refl
quiet_alone (bodies.BarrierRequest ∷ others) quiet = absurd quiet.0
quiet_alone (other ∷ others) quiet = ap (λ changes. in_first changes (between_barriers others)) quiet.0
    ∙ ap (in_first []) (quiet_alone others quiet.1)

pub quiet_changes_nothing : QuietChangesNothing
quiet_changes_nothing [] others quiet = quiet_alone others quiet
quiet_changes_nothing (bodies.BarrierRequest ∷ sent) others quiet =
    ap (λ later. [] ∷ later) (quiet_changes_nothing sent others quiet)
quiet_changes_nothing (body ∷ sent) others quiet = ap (in_first (changes_of body))
    (quiet_changes_nothing sent others quiet)

-- ---- numbers fit their types

flow_mod_types : (m : MatchOf) (cookie command priority flags : ℕ) (actions : List Action) → cookie < 2 ^ 64
    → command < 2 ^ 16 → priority < 2 ^ 16 → flags < 2 ^ 16 → All ActionFits actions
    → FitsTypes (bodies.FlowMod (flow_mod m cookie command priority flags actions))
flow_mod_types m cookie command priority flags actions c d p f a = record {
  m = match_long m;
  cookie = c;
  command = d;
  idle_timeout = omega arith;
  hard_timeout = omega arith;
  priority = p;
  buffer_id = omega arith;
  out_port = omega arith;
  flags = f;
  actions = a;
}

no_actions : All ActionFits []
no_actions = All-from_recursion ActionFits [] tt

deletion_sendable : (w : Written) → HasTypes w → IsSendable (delete_strict w)
deletion_sendable w t = (
  delete_strict_fits w,
  flow_mod_types w.entry.m w.cookie 4 w.entry.priority 0 [] t.cookie (omega arith)
      t.priority (omega arith) no_actions,
)

addition_sendable : (w : Written) → CanAdd w → HasTypes w → IsSendable (addition w)
addition_sendable w can t = (
  addition_fits w can,
  flow_mod_types w.entry.m w.cookie 0 w.entry.priority 1 w.entry.actions t.cookie
      (omega arith) t.priority (omega arith) t.actions,
)

deletions_sendable : (ws : List Written) → AllByRecursion HasTypes ws
    → AllByRecursion IsSendable (map delete_strict ws)
deletions_sendable [] t = tt
deletions_sendable (w ∷ ws) t = (deletion_sendable w t.0, deletions_sendable ws t.1)

additions_sendable : (ws : List Written) → AllByRecursion CanAdd ws → AllByRecursion HasTypes ws
    → AllByRecursion IsSendable (map addition ws)
additions_sendable [] can t = tt
additions_sendable (w ∷ ws) can t = (addition_sendable w can.0 t.0, additions_sendable ws can.1 t.1)

barrier_sendable : IsSendable bodies.BarrierRequest
barrier_sendable = (barrier_fits, tt)

beginning_sendable : (begins : Bool) → AllByRecursion IsSendable (beginning begins)
beginning_sendable false = tt
beginning_sendable true = (
  (set_config_fits, (omega arith, omega arith)),
  (
    (
      delete_all_fits,
      flow_mod_types everything 0 3 0 0 [] (omega arith) (omega arith) (omega arith) (omega arith)
          no_actions,
    ),
    (barrier_sendable, tt),
  ),
)

pub batch_is_sendable : BatchIsSendable
batch_is_sendable begins b can deletes adds =
    let first = all_of_phase IsSendable barrier_sendable (map delete_strict b.deletes)
    (deletions_sendable b.deletes deletes) in
    let second = all_of_phase IsSendable barrier_sendable (map addition b.adds) (additions_sendable b.adds can adds) in
    all_joined IsSendable (beginning begins) (batch_messages b) (beginning_sendable begins)
    (all_joined IsSendable (phase (map delete_strict b.deletes)) (phase (map addition b.adds)) first second)

one_output : (port : ℕ) → port < 2 ^ 16 → All ActionFits (Output port 0 ∷ [])
one_output port fits = All-from_recursion ActionFits (Output port 0 ∷ []) ((fits, omega arith), tt)

pub others_are_sendable : OthersAreSendable
others_are_sendable = record {
  flows = (flow_request_fits, tt);
  ports = (port_request_fits, tt);
  packets = λ port bytes fits short. (
    packet_fits port bytes short,
    record { buffer_id = omega arith; in_port = omega arith; actions = one_output port fits },
  );
}
