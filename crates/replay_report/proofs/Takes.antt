-- What a step that takes does to what waits.
use Rattle.std.proofs.Common.{◌≡◌, ℕ, ◌==◌, ◌&&◌, Bool, true, false, nat_lt, List, [], ◌∷◌, Option, Some, None, refl}
use Rattle.std.proofs.Common.{ap, sym, subst, ◌∙◌, arith}
use Rattle.std.specs.Prelude.{if◌then◌else◌, option_map, slice_get}
use Rattle.std.specs.Option.{option_map_or}
use Rattle.std.proofs.lemmas.Bool.Decides.{nat_tests}
use Rattle.cv_io.specs.declared.leaf.Session.{Session}
use Rattle.cv_io.specs.declared.leaf.Who.{Who}
use Rattle.cv_io.specs.declared.leaf.Who.TheVariants.{Member, Switch, Audit}
use Rattle.events.specs.declared.event.Event.{Event}
use Rattle.events.specs.declared.event.Event.TheVariants.{Take}
use Rattle.events.specs.declared.event.Reply.{Reply}
use Rattle.events.specs.declared.event.Reply.TheVariants as replies
use Rattle.machine_meaning.specs.Glances.{unless_taken}
use Rattle.machine_meaning.specs.Lists.{changed_at}
use Rattle.machine_meaning.specs.Sessions.{round_of}
use Rattle.machine_meaning.specs.States.{MemberOf, State, SwitchOf}
use Rattle.machine_meaning.specs.Steps.{step_by, step_of}
use Rattle.machine_meaning.specs.Takings.{audit_outbox, left_after, reply_of, takes, taking_from}
use Rattle.outbox.specs.Outboxes.{OutboxOf, first, later, taken, taking}
use Rattle.outbox.specs.declared.outbox.Taking.{Taking}
use Rattle.outbox.specs.declared.outbox.Taking.TheVariants.{Taken, Empty, Closed}
use Rattle.policies.specs.Policies.{PolicyOf}
use Rattle.replay_report.specs.Playing.{present}
use Rattle.replay_report.specs.Takings.{TakesFirst, emptied, emptied_member, emptied_outbox, emptied_switch, taken_in}
use Rattle.replay_report.specs.Takings.{waiting_in, waits_for}
use Rattle.replay_report.proofs.Changing.{changed_nowhere, changed_same, changed_there, changed_twice}

-- ---- one outbox

-- the first of what waits is taken, or nothing waits and all stays
abbrev pub TakesOne : Taking → OutboxOf → OutboxOf → Type 0
TakesOne (Taken message) old new = (waiting_in old ≡ message ∷ waiting_in new)
    × (emptied_outbox new ≡ emptied_outbox old)
TakesOne Empty old new = (waiting_in old ≡ []) × (emptied_outbox old ≡ old)
TakesOne Closed old new = (waiting_in old ≡ []) × (emptied_outbox old ≡ old)

one_by : (lt eq up : Bool) (round : ℕ) (waiting : List (List ℕ)) → lt ≡ false → eq ≡ true →
    TakesOne (if lt then Empty else (if up && eq then first waiting else Closed))
    (record { round = round; up = up; waiting = waiting })
    (if up && eq then record { round = round; up = up; waiting = later waiting }
    else record { round = round; up = up; waiting = waiting })
one_by true eq up round waiting a b = cc
one_by false false up round waiting a b = cc
one_by false true false round waiting a b = (refl, refl)
one_by false true true round [] a b = (refl, refl)
one_by false true true round (message ∷ rest) a b = (refl, refl)

one_taken : (o : OutboxOf) → TakesOne (taking o o.round) o (taken o o.round)
one_taken o =
    let a : nat_lt o.round o.round ≡ false = grind (arith, nat_tests) in
    let b : (o.round == o.round) ≡ true = grind (arith, nat_tests) in
    one_by (nat_lt o.round o.round) (o.round == o.round) o.up o.round o.waiting a b

-- ---- a step

-- what a taking answers, and the state that it leaves
abbrev pub step_as : Reply → Session → State → Reply × State
step_as (replies.Taken message) session s = (replies.Taken message, left_after session s)
step_as reply session s = (reply, s)

step_with : (p : PolicyOf) (s : State) (session : Session) (r : Reply) → takes s session ≡ r
    → step_by (unless_taken r) p s (Take session) ≡ step_as r session s
step_with p s session (replies.Taken message) e = ap (λ (r : Reply). (r, left_after session s)) e
step_with p s session (replies.Opened round) e = refl
step_with p s session replies.Done e = refl
step_with p s session replies.Empty e = refl
step_with p s session replies.Closed e = refl
step_with p s session replies.Replaced e = refl
step_with p s session (replies.Refused fault) e = refl

step_is : (p : PolicyOf) (s : State) (session : Session) (r : Reply) → takes s session ≡ r
    → step_of p s (Take session) ≡ step_as r session s
step_is p s session r e =
    ap (λ (q : Reply). step_by (unless_taken q) p s (Take session)) e ∙ step_with p s session r e

-- a step that is known takes what it takes
abbrev pub Takes : Who → State → Reply × State → Type 0
Takes who s q = TakesFirst (taken_in q.0) who s q.1

-- ---- members

some_member : (s : State) (n : ℕ) (x : MemberOf) (t : Taking) → slice_get s.members n ≡ Some x
    → t ≡ taking x.outbox x.outbox.round →
    TakesOne t x.outbox (taken x.outbox x.outbox.round)
    → Takes (Member n) s (step_as (reply_of t) (present s (Member n)) s)
some_member s n x (Taken message) e t one =
    let round : round_of s (Member n) ≡ x.outbox.round =
    ap (λ g. option_map_or (λ (o : OutboxOf). o.round) (option_map (λ (y : MemberOf). y.outbox) g) 0) e in
    let f = λ (y : MemberOf). record y { outbox = taken y.outbox (round_of s (Member n)) } in
    let same : taken x.outbox (round_of s (Member n)) ≡ taken x.outbox x.outbox.round = ap (taken x.outbox) round in (
      ap (λ g. option_map_or waiting_in (option_map (λ (y : MemberOf). y.outbox) g) []) e
          ∙ (one.0 ∙ ap (λ (ms : List (List ℕ)). message ∷ ms)
          (ap waiting_in (sym same)
          ∙ sym (ap (λ g. option_map_or waiting_in (option_map (λ (y : MemberOf). y.outbox) g) [])
          (changed_there f n s.members x e)))),
      ap (λ (ms : List MemberOf). record s { members = ms })
          (changed_twice f emptied_member emptied_member n s.members x e
          (ap (λ (o : OutboxOf). record x { outbox = o }) (ap emptied_outbox same ∙ one.1))),
    )
some_member s n x Empty e t one = (
  ap (λ g. option_map_or waiting_in (option_map (λ (y : MemberOf). y.outbox) g) []) e ∙ one.0,
  sym (ap (λ (ms : List MemberOf). record s { members = ms })
      (changed_same emptied_member n s.members x e (ap (λ (o : OutboxOf). record x { outbox = o }) one.1))),
)
some_member s n x Closed e t one = (
  ap (λ g. option_map_or waiting_in (option_map (λ (y : MemberOf). y.outbox) g) []) e ∙ one.0,
  sym (ap (λ (ms : List MemberOf). record s { members = ms })
      (changed_same emptied_member n s.members x e (ap (λ (o : OutboxOf). record x { outbox = o }) one.1))),
)

member_taken : (p : PolicyOf) (s : State) (n : ℕ) (g : Option MemberOf) → slice_get s.members n ≡ g
    → Takes (Member n) s (step_of p s (Take (present s (Member n))))
member_taken p s n None e =
    let t : takes s (present s (Member n)) ≡ replies.Closed =
    ap (λ g. taking_from (option_map (λ (y : MemberOf). y.outbox) g) (round_of s (Member n))) e in
    subst (Takes (Member n) s) (sym (step_is p s (present s (Member n)) replies.Closed t)) (
      ap (λ g. option_map_or waiting_in (option_map (λ (y : MemberOf). y.outbox) g) []) e,
      sym (ap (λ (ms : List MemberOf). record s { members = ms }) (changed_nowhere emptied_member n s.members e)),
    )
member_taken p s n (Some x) e =
    let round : round_of s (Member n) ≡ x.outbox.round =
    ap (λ g. option_map_or (λ (o : OutboxOf). o.round) (option_map (λ (y : MemberOf). y.outbox) g) 0) e in
    let t : takes s (present s (Member n)) ≡ reply_of (taking x.outbox x.outbox.round) =
    (λ i. taking_from (option_map (λ (y : MemberOf). y.outbox) (e i)) (round i)) in
    subst (Takes (Member n) s) (sym (step_is p s (present s (Member n)) (reply_of (taking x.outbox x.outbox.round)) t))
    (some_member s n x (taking x.outbox x.outbox.round) e refl (one_taken x.outbox))

-- ---- switches

some_switch : (s : State) (n : ℕ) (x : SwitchOf) (t : Taking) → slice_get s.switches n ≡ Some x
    → t ≡ taking x.outbox x.outbox.round →
    TakesOne t x.outbox (taken x.outbox x.outbox.round)
    → Takes (Switch n) s (step_as (reply_of t) (present s (Switch n)) s)
some_switch s n x (Taken message) e t one =
    let round : round_of s (Switch n) ≡ x.outbox.round =
    ap (λ g. option_map_or (λ (o : OutboxOf). o.round) (option_map (λ (y : SwitchOf). y.outbox) g) 0) e in
    let f = λ (y : SwitchOf). record y { outbox = taken y.outbox (round_of s (Switch n)) } in
    let same : taken x.outbox (round_of s (Switch n)) ≡ taken x.outbox x.outbox.round = ap (taken x.outbox) round in (
      ap (λ g. option_map_or waiting_in (option_map (λ (y : SwitchOf). y.outbox) g) []) e
          ∙ (one.0 ∙ ap (λ (ms : List (List ℕ)). message ∷ ms)
          (ap waiting_in (sym same)
          ∙ sym (ap (λ g. option_map_or waiting_in (option_map (λ (y : SwitchOf). y.outbox) g) [])
          (changed_there f n s.switches x e)))),
      ap (λ (ms : List SwitchOf). record s { switches = ms })
          (changed_twice f emptied_switch emptied_switch n s.switches x e
          (ap (λ (o : OutboxOf). record x { outbox = o }) (ap emptied_outbox same ∙ one.1))),
    )
some_switch s n x Empty e t one = (
  ap (λ g. option_map_or waiting_in (option_map (λ (y : SwitchOf). y.outbox) g) []) e ∙ one.0,
  sym (ap (λ (ms : List SwitchOf). record s { switches = ms })
      (changed_same emptied_switch n s.switches x e (ap (λ (o : OutboxOf). record x { outbox = o }) one.1))),
)
some_switch s n x Closed e t one = (
  ap (λ g. option_map_or waiting_in (option_map (λ (y : SwitchOf). y.outbox) g) []) e ∙ one.0,
  sym (ap (λ (ms : List SwitchOf). record s { switches = ms })
      (changed_same emptied_switch n s.switches x e (ap (λ (o : OutboxOf). record x { outbox = o }) one.1))),
)

switch_taken : (p : PolicyOf) (s : State) (n : ℕ) (g : Option SwitchOf) → slice_get s.switches n ≡ g
    → Takes (Switch n) s (step_of p s (Take (present s (Switch n))))
switch_taken p s n None e =
    let t : takes s (present s (Switch n)) ≡ replies.Closed =
    ap (λ g. taking_from (option_map (λ (y : SwitchOf). y.outbox) g) (round_of s (Switch n))) e in
    subst (Takes (Switch n) s) (sym (step_is p s (present s (Switch n)) replies.Closed t)) (
      ap (λ g. option_map_or waiting_in (option_map (λ (y : SwitchOf). y.outbox) g) []) e,
      sym (ap (λ (ms : List SwitchOf). record s { switches = ms }) (changed_nowhere emptied_switch n s.switches e)),
    )
switch_taken p s n (Some x) e =
    let round : round_of s (Switch n) ≡ x.outbox.round =
    ap (λ g. option_map_or (λ (o : OutboxOf). o.round) (option_map (λ (y : SwitchOf). y.outbox) g) 0) e in
    let t : takes s (present s (Switch n)) ≡ reply_of (taking x.outbox x.outbox.round) =
    (λ i. taking_from (option_map (λ (y : SwitchOf). y.outbox) (e i)) (round i)) in
    subst (Takes (Switch n) s) (sym (step_is p s (present s (Switch n)) (reply_of (taking x.outbox x.outbox.round)) t))
    (some_switch s n x (taking x.outbox x.outbox.round) e refl (one_taken x.outbox))

-- ---- the audit

line_taken : (p : PolicyOf) (s : State) (lines : List (List ℕ)) → s.audit ≡ lines
    → Takes Audit s (step_of p s (Take (present s Audit)))
line_taken p s [] e =
    let t : takes s (present s Audit) ≡ replies.Empty = ap (λ (ms : List (List ℕ)). reply_of (first ms)) e in
    subst (Takes Audit s) (sym (step_is p s (present s Audit) replies.Empty t))
    (e, ap (λ (ms : List (List ℕ)). record s { audit = ms }) e)
line_taken p s (line ∷ lines) e =
    let t : takes s (present s Audit) ≡ replies.Taken line = ap (λ (ms : List (List ℕ)). reply_of (first ms)) e in
    subst (Takes Audit s) (sym (step_is p s (present s Audit) (replies.Taken line) t))
    (e ∙ ap (λ (ms : List (List ℕ)). line ∷ ms) (sym (ap later e)), refl)

-- ---- whoever is taken from

pub step_takes : (p : PolicyOf) (who : Who) (s : State) → Takes who s (step_of p s (Take (present s who)))
step_takes p (Member n) s = member_taken p s n (slice_get s.members n) refl
step_takes p (Switch n) s = switch_taken p s n (slice_get s.switches n) refl
step_takes p Audit s = line_taken p s s.audit refl

pub takes_first : (p : PolicyOf) (who : Who) (s new : State) (reply : Reply)
    → (reply, new) ≡ step_of p s (Take (present s who)) → TakesFirst (taken_in reply) who s new
takes_first p who s new reply h = subst (Takes who s) (sym h) (step_takes p who s)
