-- What a step answers, and that it keeps the members and the switches.
use Rattle.std.proofs.Common.{◌≡◌, ◌∙◌, ◌&&◌, ℕ, ◌<◌, ◌≤◌, nat_le, if◌then◌else◌, Bool, true, false, List, [], ◌∷◌}
use Rattle.std.proofs.Common.{length, Option, Some, None}
use Rattle.std.proofs.Common.{Result, Ok, Err, refl, sym, ap, ap₂, subst, slice_get, arith, zero, suc, le-leb, eq-eqb}
use Rattle.std.specs.Prelude.{is_some, option_map}
use Rattle.std.proofs.lemmas.Bool.{false≢true}
use Rattle.std.proofs.lemmas.List.{length-map}
use Rattle.std.proofs.lemmas.List.FromFn.{length-enumerate_from}
use Rattle.std.specs.List.{enumerate_from}
use Rattle.cv_io.specs.declared.leaf.Session.{Session}
use Rattle.cv_io.specs.declared.leaf.Who.{Who}
use Rattle.cv_io.specs.declared.leaf.Who.TheVariants.{Audit, Member, Switch}
use Rattle.events.specs.declared.event.Event.{Event}
use Rattle.events.specs.declared.event.Event.TheVariants as events
use Rattle.events.specs.declared.event.Reply.{Reply}
use Rattle.events.specs.declared.event.Reply.TheVariants.{Closed, Done, Opened, Refused, Replaced}
use Rattle.of10_frames.specs.Frames.{IsFrame}
use Rattle.of10_frames.specs.Wire.{length_field}
use Rattle.outbox.specs.Outboxes.{taken}
use Rattle.policy_expr.specs.Policy.{Policy}
use Rattle.policy_expr.specs.Reading.{reading as reading_of_expression}
use Rattle.policy_expr.specs.declared.fault.ExprFault.{ExprFault}
use Rattle.policies.specs.Exprs.{names}
use Rattle.policies.specs.Policies.{PolicyOf, plan}
use Rattle.policies.specs.Widths.{too_wide_in}
use Rattle.machine_meaning.specs.Acting.{act}
use Rattle.machine_meaning.specs.Coming.{comes_up, end_first, noting}
use Rattle.machine_meaning.specs.Drafts.{Draft, untouched}
use Rattle.machine_meaning.specs.Glances.{closed_unless, glance_of, is_frame, is_present}
use Rattle.machine_meaning.specs.Hearing.{heard}
use Rattle.machine_meaning.specs.Phases.{drafted, slow}
use Rattle.machine_meaning.specs.Putting.{put, put_to_member, put_to_switch}
use Rattle.machine_meaning.specs.Replacing.{exprs_with, replace_by, replace_unless, replaces, width_refusal}
use Rattle.machine_meaning.specs.Lists.{changed_at}
use Rattle.machine_meaning.specs.Rounds.{begin_switch, begun_member, begun_switch, with_round}
use Rattle.machine_meaning.specs.Sessions.{round_of}
use Rattle.machine_meaning.specs.States.{MemberOf, State, SwitchOf, new_member, new_switch, opening}
use Rattle.machine_meaning.specs.Steps.{proceed, step_by, step_of}
use Rattle.machine_meaning.specs.Takings.{left_by}
use Rattle.machine_meaning.proofs.Readied.{long_changed}
use Rattle.events.specs.declared.event.PolicyRefusal.{PolicyRefusal}
use Rattle.events.specs.declared.event.PolicyRefusal.TheVariants.{Expr}
use Rattle.lock_desk.specs.Hosts.{IsOver}
use Rattle.machine_answers.specs.Answers.{GoingsAreHeard, HasSession, MessagesAreHeard, OpeningHasSessions}
use Rattle.machine_answers.specs.Answers.{MomentsGoOn, SecondsAreDone, SecondsAreTold}
use Rattle.machine_answers.specs.Answers.{SessionsOpen, SessionsStay, is_idle, reply_in}
use Rattle.machine_answers.proofs.Phases.{Holds, drafted_holds, first_holds, gone_holds, sends_holds, tick_holds}

-- an event's own work -----------------------------------------------------------------------------------------------

-- so many members and switches
abbrev pub AreMany : ℕ → ℕ → State → Type 0
AreMany m k s = (length s.members ≡ m) × (length s.switches ≡ k)

-- who comes up is answered a round
came_member : (m k : ℕ) (p : PolicyOf) (n : ℕ) (arp : Bool) (t : State) → AreMany m k t
    → (round : ℕ) × Holds m k (t.audit, t.moment) (Opened round) (comes_up p (Member n) arp (untouched t))
came_member m k p n arp t many =
    let d = end_first (Member n) (untouched t) in
    let h = first_holds m k (t.audit, t.moment) Done (Member n) (untouched t) (many.0, many.1, refl, refl) in
    let s = record d.state { members = changed_at n begun_member d.state.members } in
    (round_of s (Member n), (long_changed n begun_member d.state.members ∙ h.0, h.1, h.2, refl))

noted : (m k : ℕ) (a : List (List ℕ) × ℕ) (r : Reply) (p : PolicyOf) (n : ℕ) (arp : Bool) (d : Draft)
    → Holds m k a r d → Holds m k a r (noting p n arp d)
noted m k a r p n true d h = h
noted m k a r p n false d h = h

came_switch : (m k : ℕ) (p : PolicyOf) (n : ℕ) (arp : Bool) (t : State) → AreMany m k t
    → (round : ℕ) × Holds m k (t.audit, t.moment) (Opened round) (comes_up p (Switch n) arp (untouched t))
came_switch m k p n arp t many =
    let d = end_first (Switch n) (untouched t) in
    let h = first_holds m k (t.audit, t.moment) Done (Switch n) (untouched t) (many.0, many.1, refl, refl) in
    let round = round_of (with_round n d.state) (Switch n) in (
      round,
      noted m k (t.audit, t.moment) (Opened round) p n arp (begin_switch n d)
          (h.0, long_changed n (begun_switch d.state.next_cookie) d.state.switches ∙ h.1, h.2, refl),
    )

-- the audit has no rounds
came_up : (m k : ℕ) (p : PolicyOf) (who : Who) (arp : Bool) (s t : State) → AreMany m k t → HasSession s who
    → (round : ℕ) × Holds m k (t.audit, t.moment) (Opened round) (comes_up p who arp (untouched t))
came_up m k p (Member n) arp s t many has = came_member m k p n arp t many
came_up m k p (Switch n) arp s t many has = came_switch m k p n arp t many
came_up m k p Audit arp s t many has = absurd (false≢true has)

came : (m k : ℕ) (p : PolicyOf) (who : Who) (arp : Bool) (t : State) → AreMany m k t
    → (r : Reply) × Holds m k (t.audit, t.moment) r (comes_up p who arp (untouched t))
came m k p (Member n) arp t many = let o = came_member m k p n arp t many in (Opened o.0, o.1)
came m k p (Switch n) arp t many = let o = came_switch m k p n arp t many in (Opened o.0, o.1)
came m k p Audit arp t many = (Done, (many.0, many.1, refl, refl))

-- an expression is answered something
replaced : (m k : ℕ) (p : PolicyOf) (v : ℕ) (text : List ℕ) (t : State) → AreMany m k t
    → (r : Reply) × Holds m k (t.audit, t.moment) r (replaces p v text (untouched t))
replaced m k p v text t many = by (reading_of_expression (names p.members v) text)
  where
    unless : (e : Policy) (o : Option PolicyRefusal)
        → (r : Reply) × Holds m k (t.audit, t.moment) r (replace_unless o p v e (untouched t))
    unless e (Some refusal) = (Refused refusal, (many.0, many.1, refl, refl))
    unless e None = (Replaced, (many.0, many.1, refl, refl))

    by : (o : Result Policy ExprFault) → (r : Reply) × Holds m k (t.audit, t.moment) r (replace_by p v o (untouched t))
    by (Ok e) = unless e (width_refusal (too_wide_in (plan p) p.members (exprs_with v e t.exprs) p.hops))
    by (Err fault) = (Refused (Expr fault), (many.0, many.1, refl, refl))

-- the second that is told, or the moment
abbrev pub moment_with : State → Event → ℕ
moment_with s (events.Tick second) = second
moment_with s e = s.moment

pub acted : (m k : ℕ) (p : PolicyOf) (t : State) (e : Event) → AreMany m k t
    → (r : Reply) × Holds m k (t.audit, moment_with t e) r (act p t e)
acted m k p t (events.Up who arp) many = came m k p who arp t many
acted m k p t (events.Msg session frame) many =
    (Done, sends_holds m k (t.audit, t.moment) Done p session.who frame (untouched t) (many.0, many.1, refl, refl))
acted m k p t (events.Gone session) many =
    (Done, gone_holds m k (t.audit, t.moment) Done session.who (untouched t) (many.0, many.1, refl, refl))
acted m k p t (events.Tick second) many =
    (Done, tick_holds m k (t.audit, second) Done p second (untouched t) (many.0, many.1, refl, refl))
acted m k p t (events.Take session) many = (Done, (many.0, many.1, refl, refl))
acted m k p t (events.Policy v text) many = replaced m k p v text t many

-- whole steps -------------------------------------------------------------------------------------------------------

-- the reply of a draft is kept by the phases behind the event's own work
replied : (m k : ℕ) (a : List (List ℕ) × ℕ) (r : Reply) (p : PolicyOf) (s : State) (e : Event)
    → Holds m k a r (act p (heard s e) e) → (drafted p (heard s e) e).reply ≡ r
replied m k a r p s e h = (drafted_holds m k a r p (heard s e) e (slow p (heard s e) e) h).3

put_many : (m k : ℕ) (p : PolicyOf) (d : Draft) → AreMany m k d.state → AreMany m k (put p d)
put_many m k p d h = (
  length-map (enumerate_from 0 d.state.members) (put_to_member d) ∙ (length-enumerate_from 0 d.state.members ∙ h.0),
  length-map (enumerate_from 0 d.state.switches) (put_to_switch d) ∙ (length-enumerate_from 0 d.state.switches ∙ h.1),
)

went_on : (m k : ℕ) (p : PolicyOf) (s : State) (e : Event) → AreMany m k s
    → AreMany m k (put p (drafted p (heard s e) e))
went_on m k p s e many =
    let o = acted m k p (heard s e) e (many.0, many.1) in
    let t = drafted_holds m k (s.audit, moment_with (heard s e) e) o.0 p (heard s e) e (slow p (heard s e) e) o.1 in
    put_many m k p (drafted p (heard s e) e) (t.0, t.1)

left_many : (m k : ℕ) (who : Who) (round : ℕ) (s : State) → AreMany m k s → AreMany m k (left_by who round s)
left_many m k (Member n) round s h =
    (long_changed n (λ (x : MemberOf). record x { outbox = taken x.outbox round }) s.members ∙ h.0, h.1)
left_many m k (Switch n) round s h =
    (h.0, long_changed n (λ (x : SwitchOf). record x { outbox = taken x.outbox round }) s.switches ∙ h.1)
left_many m k Audit round s h = h

proceeded : (m k : ℕ) (p : PolicyOf) (s : State) (e : Event) → AreMany m k s → AreMany m k (proceed p s e).1
proceeded m k p s (events.Up who arp) h = went_on m k p s (events.Up who arp) h
proceeded m k p s (events.Msg session frame) h = went_on m k p s (events.Msg session frame) h
proceeded m k p s (events.Gone session) h = went_on m k p s (events.Gone session) h
proceeded m k p s (events.Tick second) h = went_on m k p s (events.Tick second) h
proceeded m k p s (events.Take session) h = left_many m k session.who session.round s h
proceeded m k p s (events.Policy v text) h = went_on m k p s (events.Policy v text) h

stepped : (m k : ℕ) (p : PolicyOf) (s : State) (e : Event) → AreMany m k s → AreMany m k (step_of p s e).1
stepped m k p s e h = by (glance_of p s e)
  where
    by : (o : Option Reply) → AreMany m k (step_by o p s e).1
    by (Some reply) = h
    by None = proceeded m k p s e h

-- sessions ----------------------------------------------------------------------------------------------------------

-- a place of a list has an item exactly where it is below the length
there : {A : Type 0} (xs : List A) (n : ℕ) → n < length xs → is_some (slice_get xs n) ≡ true
there [] n lt = absurd (omega arith)
there (x ∷ xs) zero lt = refl
there (x ∷ xs) (suc n) lt = there xs n (omega arith)

within : {A : Type 0} (xs : List A) (n : ℕ) → is_some (slice_get xs n) ≡ true → n < length xs
within [] n h = absurd (false≢true h)
within (x ∷ xs) zero h = omega arith
within (x ∷ xs) (suc n) h = let t = within xs n h in omega arith

some_of : {A B : Type 0} (f : A → B) (o : Option A) → is_some (option_map f o) ≡ is_some o
some_of f (Some x) = refl
some_of f None = refl

member_there : (s : State) (n : ℕ) → n < length s.members → HasSession s (Member n)
member_there s n lt = some_of (λ (x : MemberOf). x.outbox) (slice_get s.members n) ∙ there s.members n lt

switch_there : (s : State) (n : ℕ) → n < length s.switches → HasSession s (Switch n)
switch_there s n lt = some_of (λ (x : SwitchOf). x.outbox) (slice_get s.switches n) ∙ there s.switches n lt

has_still : (s t : State) → AreMany (length s.members) (length s.switches) t → (who : Who) → HasSession s who
    → HasSession t who
has_still s t many (Member n) h =
    let k = within s.members n (sym (some_of (λ (x : MemberOf). x.outbox) (slice_get s.members n)) ∙ h) in
    member_there t n (subst (λ l. n < l) (sym many.0) k)
has_still s t many (Switch n) h =
    let k = within s.switches n (sym (some_of (λ (x : SwitchOf). x.outbox) (slice_get s.switches n)) ∙ h) in
    switch_there t n (subst (λ l. n < l) (sym many.1) k)
has_still s t many Audit h = absurd (false≢true h)

pub stay : SessionsStay
stay p s e who h =
    has_still s (step_of p s e).1 (stepped (length s.members) (length s.switches) p s e (refl, refl)) who h

pub at_opening : OpeningHasSessions
at_opening p n = (
  λ lt. member_there (opening p) n (subst (λ l. n < l) (sym (length-map p.members new_member)) lt),
  λ lt. switch_there (opening p) n (subst (λ l. n < l) (sym (length-map p.switches new_switch)) lt),
)

-- answers -----------------------------------------------------------------------------------------------------------

-- an event that goes through the phases is answered as its own work says
busy : (p : PolicyOf) (s : State) (e : Event) (r : Reply) (now : ℕ)
    → (proceed p s e).0 ≡ (drafted p (heard s e) e).reply
    → Holds (length s.members) (length s.switches) (s.audit, now) r (act p (heard s e) e) → is_idle p s e ≡ false
    → reply_in p s e ≡ r
busy p s e r now goes h = by (glance_of p s e)
  where
    by : (o : Option Reply) → is_some o ≡ false → (step_by o p s e).0 ≡ r
    by (Some reply) i = absurd (false≢true (sym i))
    by None i = goes ∙ replied (length s.members) (length s.switches) (s.audit, now) r p s e h

-- and one that is closed unless a test holds is refused where it doesn't
refused : (p : PolicyOf) (s : State) (e : Event) (b : Bool) → glance_of p s e ≡ closed_unless b → b ≡ false
    → reply_in p s e ≡ Closed
refused p s e b is isnt = ap (λ (o : Option Reply). (step_by o p s e).0) (is ∙ ap closed_unless isnt)

idle_no : (b : Bool) → is_some (closed_unless b) ≡ true → b ≡ false
idle_no true i = absurd (false≢true i)
idle_no false i = refl

never : (b : Bool) → (b && false) ≡ false
never true = refl
never false = refl

second : (a b : Bool) → a ≡ true → (a && b) ≡ false → b ≡ false
second true b e h = h
second false b e h = absurd (false≢true e)

-- the session has ended
pub over : (p : PolicyOf) (s : State) (session : Session) → is_present s session ≡ false
    → IsOver (reply_in p) s session
over p s session isnt = (
  λ frame.
      refused p s (events.Msg session frame) (is_frame frame && is_present s session) refl
      (ap (λ b. is_frame frame && b) isnt ∙ never (is_frame frame)),
  refused p s (events.Gone session) (is_present s session) refl isnt,
)

pub opens : SessionsOpen
opens p s who arp has =
    let e = events.Up who arp in
    let o = came_up (length s.members) (length s.switches) p who arp s (heard s e) (refl, refl) has in
    let awake : is_idle p s e ≡ false = ap (λ b. is_some (closed_unless b)) has in
    (awake, (o.0, busy p s e (Opened o.0) s.moment refl o.1 awake))

framed : (frame : List ℕ) → IsFrame frame → is_frame frame ≡ true
framed frame h =
    ap₂ (λ (a b : Bool). a && b) (le-leb 8 (length frame) h.header) (eq-eqb (length_field frame) (length frame) h.whole)

pub heard_messages : MessagesAreHeard
heard_messages p s session frame whole =
    let e = events.Msg session frame in (
      busy p s e Done s.moment refl
          (sends_holds (length s.members) (length s.switches) (s.audit, s.moment) Done p session.who frame
          (untouched (heard s e))
          (refl, refl, refl, refl)),
      λ i.
          let isnt = idle_no (is_frame frame && is_present s session) i in (
            refused p s e (is_frame frame && is_present s session) refl isnt,
            over p s session (second (is_frame frame) (is_present s session) (framed frame whole) isnt),
          ),
    )

pub heard_goings : GoingsAreHeard
heard_goings p s session =
    let e = events.Gone session in (
      busy p s e Done s.moment refl
          (gone_holds (length s.members) (length s.switches) (s.audit, s.moment) Done session.who
          (untouched (heard s e))
          (refl, refl, refl, refl)),
      λ i.
          let isnt = idle_no (is_present s session) i in
          (refused p s e (is_present s session) refl isnt, over p s session isnt),
    )

pub done_seconds : SecondsAreDone
done_seconds p s second =
    let e = events.Tick second in
    busy p s e Done second refl
    (tick_holds (length s.members) (length s.switches) (s.audit, second) Done p second (untouched (heard s e))
    (refl, refl, refl, refl))

-- the moment ---------------------------------------------------------------------------------------------------------

went_moment : (p : PolicyOf) (s : State) (e : Event)
    → (put p (drafted p (heard s e) e)).moment ≡ moment_with (heard s e) e
went_moment p s e =
    let o = acted (length s.members) (length s.switches) p (heard s e) e (refl, refl) in
    ap (λ (x : List (List ℕ) × ℕ). x.1)
    (drafted_holds (length s.members) (length s.switches) (s.audit, moment_with (heard s e) e) o.0 p (heard s e) e
    (slow p (heard s e) e) o.1).2

left_moment : (who : Who) (round : ℕ) (s : State) → (left_by who round s).moment ≡ s.moment
left_moment (Member n) round s = refl
left_moment (Switch n) round s = refl
left_moment Audit round s = refl

proceeded_moment : (p : PolicyOf) (s : State) (e : Event) → (proceed p s e).1.moment ≡ moment_with s e
proceeded_moment p s (events.Up who arp) = went_moment p s (events.Up who arp)
proceeded_moment p s (events.Msg session frame) = went_moment p s (events.Msg session frame)
proceeded_moment p s (events.Gone session) = went_moment p s (events.Gone session)
proceeded_moment p s (events.Tick second) = went_moment p s (events.Tick second)
proceeded_moment p s (events.Take session) = left_moment session.who session.round s
proceeded_moment p s (events.Policy v text) = went_moment p s (events.Policy v text)

-- a second is idle where it is not above the moment
idle_seconds : (second moment : ℕ) (b : Bool) → is_some (if nat_le second moment then Some Done else None) ≡ b
    → nat_le second moment ≡ b
idle_seconds second moment b i = by (nat_le second moment) i
  where
    by : (v : Bool) → is_some (if v then Some Done else None) ≡ b → v ≡ b
    by true e = e
    by false e = e

not_above : (a b : ℕ) → nat_le a b ≡ true → a ≤ b
not_above a b e = grind arith

above : (a b : ℕ) → nat_le a b ≡ false → b ≤ a
above a b e = grind arith

pub told_seconds : SecondsAreTold
told_seconds p s second = (
  λ i. not_above second s.moment (idle_seconds second s.moment true i),
  λ i. by (glance_of p s (events.Tick second)) i,
)
  where
    by : (o : Option Reply) → is_some o ≡ false → second ≤ (step_by o p s (events.Tick second)).1.moment
    by (Some reply) i = absurd (false≢true (sym i))
    by None i = let e = proceeded_moment p s (events.Tick second) in grind arith

-- no event is behind the moment, unless it is idle
went_on_from : (p : PolicyOf) (s : State) (e : Event) → is_idle p s e ≡ false → s.moment ≤ moment_with s e
went_on_from p s (events.Up who arp) i = grind arith
went_on_from p s (events.Msg session frame) i = grind arith
went_on_from p s (events.Gone session) i = grind arith
went_on_from p s (events.Tick second) i = above second s.moment (idle_seconds second s.moment false i)
went_on_from p s (events.Take session) i = grind arith
went_on_from p s (events.Policy v text) i = grind arith

pub later_moments : MomentsGoOn
later_moments p s e = by (glance_of p s e) refl
  where
    by : (o : Option Reply) → glance_of p s e ≡ o → s.moment ≤ (step_by o p s e).1.moment
    by (Some reply) i = grind arith
    by None i =
        let le = went_on_from p s e (ap (λ (o : Option Reply). is_some o) i) in
        let now = proceeded_moment p s e in
        grind arith
