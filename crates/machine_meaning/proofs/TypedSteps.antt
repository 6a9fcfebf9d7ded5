-- The values of members' entries stay in their ranges, and numbers only rise.
use Rattle.std.proofs.Common.{◌≡◌, ℕ, suc, ◌+◌, ◌<◌, ◌≤◌, ◌^◌, Bool, true, false, List, [], ◌∷◌, ◌++◌, map}
use Rattle.std.proofs.Common.{fold, length, not, Option, Some, None, refl, subst, arith}
use Rattle.std.specs.Prelude.{◌==◌, ◌&&◌, All, if◌then◌else◌, slice_index}
use Rattle.std.specs.Int.{bytes_high_first}
use Rattle.std.specs.List.{AllByRecursion, list_any}
use Rattle.events.specs.declared.event.Event.{Event}
use Rattle.events.specs.declared.event.Event.TheVariants as events
use Rattle.member_state.specs.Changes.{entry_touched}
use Rattle.member_state.specs.States.{MemberStateOf}
use Rattle.member_table.specs.Entries.{has_serial, identity_of, is_at, put}
use Rattle.member_table.specs.Tables.{TableOf, after_asked, entry_of, identity_in, is_meant, modified, outputs_to}
use Rattle.member_table.specs.Tables.{with_actions, with_entry}
use Rattle.member_table.specs.Timeouts.{is_hard_due}
use Rattle.member_table.specs.declared.entry.Entry.{Entry}
use Rattle.of10_actions.specs.Actions.{FitsTypes}
use Rattle.of10_actions.specs.Spelling.{IsBytes}
use Rattle.of10_match.specs.Ranges.{IsMatch}
use Rattle.of10_match.specs.Wildcards.{normal_of}
use Rattle.of10_msgs.specs.Commands.{command_at}
use Rattle.of10_msgs.specs.Kinds.{kind_at}
use Rattle.of10_msgs.specs.Ranges.{FitsTypes as BodyFits}
use Rattle.of10_msgs.specs.Reading.{reading}
use Rattle.of10_msgs.specs.Senders.{is_of_switch}
use Rattle.of10_msgs.specs.Spelling.{Spells, body_with, flow_mod_fields}
use Rattle.of10_msgs.specs.declared.command.Command.{Command}
use Rattle.of10_msgs.specs.declared.command.Command.TheVariants.{Add, Delete, DeleteStrict, Modify, ModifyStrict}
use Rattle.of10_msgs.specs.declared.message.Body.{Body}
use Rattle.of10_msgs.specs.declared.message.Body.TheVariants as bodies
use Rattle.of10_msgs.specs.declared.message.FlowMod.{FlowMod}
use Rattle.of10_msgs.proofs.Found.{read_is_spelled}
use Rattle.policies.specs.Policies.{PolicyOf}
use Rattle.policy_meaning.proofs.Lists.{all-mapped}
use Rattle.switch_meaning.proofs.Items.{all-filter}
use Rattle.machine_meaning.specs.Events.{AreBytes, IsEvent}
use Rattle.machine_meaning.specs.Glances.{closed_unless, glance_of, is_frame, is_present}
use Rattle.machine_meaning.specs.Runs.{after}
use Rattle.machine_meaning.specs.Sound.{AreTyped, HasNumbers, IsTyped}
use Rattle.machine_meaning.specs.States.{MemberOf, State}
use Rattle.machine_meaning.specs.Steps.{step_of}
use Rattle.machine_meaning.proofs.Frames.{bytes_at, of_controller, whole_frame}
use Rattle.machine_meaning.proofs.MemberChanges.{Follow, GoesOn, GoodBody, GoodEvent, GoodFrame, IsChange}
use Rattle.machine_meaning.proofs.MemberSteps.{steps-go-on}
use Rattle.machine_meaning.proofs.ReadMatches.{after-part, clear-bytes, front-part, read-ranged}

-- frames ------------------------------------------------------------------------------------------------------------

-- the numbers of a message's match and actions are in their ranges
abbrev IsTypedMod : FlowMod → Type 0
IsTypedMod f = IsMatch (normal_of f.m) × All FitsTypes f.actions

-- a part of a frame behind its header of eight bytes
behind_header : (a b : ℕ) (x y frame rest : List ℕ) → frame ≡ a ∷ (b ∷ (x ++ (y ++ rest))) → IsBytes frame
    → IsBytes rest
behind_header a b x y frame rest e h =
    let bytes = subst IsBytes e h in after-part y rest (after-part x (y ++ rest) (λ i. bytes (suc (suc i))))

typed_body : (xid : ℕ) (body : Body) (frame : List ℕ) → IsBytes frame
    → Spells (record { xid = xid; body = body }) frame → BodyFits body → GoodBody IsTypedMod body
typed_body xid (bodies.FlowMod f) frame bytes s fits =
    let rest = s.free.m ++ (flow_mod_fields f ++ s.free.actions) in
    let long = bytes_high_first 2 (8 + length (body_with (bodies.FlowMod f) s.free)) in
    let all = behind_header _ _ long (bytes_high_first 4 xid) frame rest s.whole bytes in
    let m = front-part s.free.m (flow_mod_fields f ++ s.free.actions) all in
    (read-ranged f.m (subst IsBytes s.matched (clear-bytes s.free.m m)), fits.actions)
typed_body xid body frame bytes s fits = tt

typed_frame : (frame : List ℕ) → AreBytes frame → is_frame frame ≡ true → GoodFrame IsTypedMod frame
typed_frame frame bytes whole m e =
    let each = bytes_at frame bytes.each in
    let of_switch = (slice_index frame 0 == 1) && is_of_switch (kind_at (slice_index frame 1)) in
    let is = of_controller of_switch _ (reading frame) m e in
    let r = read_is_spelled frame m each (whole_frame frame whole) is in
    typed_body m.xid m.body frame each r.0 r.1.fits

first_passes : (a b : Bool) → closed_unless (a && b) ≡ None → a ≡ true
first_passes true b e = refl
first_passes false b e = absurd (cc)

typed_event : (p : PolicyOf) (s : State) (e : Event) → IsEvent e → glance_of p s e ≡ None → GoodEvent IsTypedMod e
typed_event p s (events.Up who arp) given none = tt
typed_event p s (events.Msg session frame) given none =
    typed_frame frame given.1 (first_passes (is_frame frame) (is_present s session) none)
typed_event p s (events.Gone session) given none = tt
typed_event p s (events.Tick second) given none = tt
typed_event p s (events.Take session) given none = tt
typed_event p s (events.Policy v text) given none = tt

-- entries -----------------------------------------------------------------------------------------------------------

abbrev AllTyped : List Entry → Type 0
AllTyped es = AllByRecursion IsTyped es

typed_put : (new : Entry) (es : List Entry) → IsTyped new → AllTyped es → AllTyped (put new es)
typed_put new [] t h = (t, tt)
typed_put new (e ∷ es) t h = by (is_at (identity_of new) e) (typed_put new es t h.1)
  where
    by : (b : Bool) → AllTyped (put new es) → AllTyped (if b then new ∷ es else e ∷ put new es)
    by true k = (t, h.1)
    by false k = (h.0, k)

typed_entry : (serial : ℕ) (m : FlowMod) (now : ℕ) → IsTypedMod m → IsTyped (entry_of serial m now)
typed_entry serial m now g = record { match_in_range = g.0; actions = g.1 }

typed_modified : (strict : Bool) (t : TableOf) (m : FlowMod) (now : ℕ) → IsTypedMod m → AllTyped t.entries
    → AllTyped (modified strict t m now).entries
typed_modified strict t m now g h = by (list_any (is_meant strict (identity_in m)) t.entries)
  where
    each : (b : Bool) (e : Entry) → IsTyped e → IsTyped (if b then with_actions m.actions e else e)
    each true e k = record { match_in_range = k.match_in_range; actions = g.1 }
    each false e k = k

    f : Entry → Entry
    f e = if is_meant strict (identity_in m) e then with_actions m.actions e else e

    by : (b : Bool) → AllTyped (if b then record t { entries = map f t.entries } else with_entry t m now).entries
    by true = all-mapped IsTyped IsTyped f t.entries (λ e k. each (is_meant strict (identity_in m) e) e k) h
    by false = typed_put (entry_of t.next m now) t.entries (typed_entry t.next m now g) h

typed_asked : (command : Option Command) (t : TableOf) (m : FlowMod) (now : ℕ) → IsTypedMod m → AllTyped t.entries
    → AllTyped (after_asked command t m now).entries
typed_asked None t m now g h = h
typed_asked (Some Add) t m now g h = typed_put (entry_of t.next m now) t.entries (typed_entry t.next m now g) h
typed_asked (Some Modify) t m now g h = typed_modified false t m now g h
typed_asked (Some ModifyStrict) t m now g h = typed_modified true t m now g h
typed_asked (Some Delete) t m now g h =
    all-filter IsTyped (λ e. not (is_meant false (identity_in m) e && outputs_to m.out_port e)) t.entries h
typed_asked (Some DeleteStrict) t m now g h =
    all-filter IsTyped (λ e. not (is_meant true (identity_in m) e && outputs_to m.out_port e)) t.entries h

typed_touched : (serial now : ℕ) (e : Entry) → IsTyped e → IsTyped (entry_touched serial now e)
typed_touched serial now e k = by (has_serial serial e)
  where
    by : (b : Bool) → IsTyped (if b then record e { last = now } else e)
    by true = record { match_in_range = k.match_in_range; actions = k.actions }
    by false = k

-- what is typed stays so
abbrev StaysTyped : MemberStateOf → MemberStateOf → Type 0
StaysTyped x y = AllTyped x.table.entries → AllTyped y.table.entries

typed_change : IsChange IsTypedMod StaysTyped
typed_change = record {
  same = λ x h. h;
  chained = λ x y z f g h. g (f h);
  message = λ m now x g h. typed_asked (command_at m.command) x.table m now g h;
  time = λ now x h. all-filter IsTyped (λ e. not (is_hard_due now e)) x.table.entries h;
  removal = λ serial x h. all-filter IsTyped (λ e. not (has_serial serial e)) x.table.entries h;
  count = λ serial now x h.
      all-mapped IsTyped IsTyped (entry_touched serial now) x.table.entries (λ e k. typed_touched serial now e k) h;
}

typed_following : (xs ys : List MemberOf) → Follow StaysTyped xs ys → AllByRecursion AreTyped xs
    → AllByRecursion AreTyped ys
typed_following [] [] f h = tt
typed_following [] (y ∷ ys) f h = absurd f
typed_following (x ∷ xs) [] f h = tt
typed_following (x ∷ xs) (y ∷ ys) f h = (f.0 h.0, typed_following xs ys f.1 h.1)

pub typed_kept : (p : PolicyOf) (s : State) (e : Event) → IsEvent e → AllByRecursion AreTyped s.members
    → AllByRecursion AreTyped (step_of p s e).1.members
typed_kept p s e given h =
    typed_following s.members (step_of p s e).1.members
    (steps-go-on IsTypedMod StaysTyped typed_change p s e (typed_event p s e given)).0 h

-- numbers -----------------------------------------------------------------------------------------------------------

abbrev NextRises : MemberStateOf → MemberStateOf → Type 0
NextRises x y = x.table.next ≤ y.table.next

next_modified : (strict : Bool) (t : TableOf) (m : FlowMod) (now : ℕ) → t.next ≤ (modified strict t m now).next
next_modified strict t m now = by (list_any (is_meant strict (identity_in m)) t.entries)
  where
    f : Entry → Entry
    f e = if is_meant strict (identity_in m) e then with_actions m.actions e else e

    by : (b : Bool) → t.next ≤ (if b then record t { entries = map f t.entries } else with_entry t m now).next
    by true = omega arith
    by false = omega arith

next_asked : (command : Option Command) (t : TableOf) (m : FlowMod) (now : ℕ)
    → t.next ≤ (after_asked command t m now).next
next_asked None t m now = omega arith
next_asked (Some Add) t m now = omega arith
next_asked (Some Modify) t m now = next_modified false t m now
next_asked (Some ModifyStrict) t m now = next_modified true t m now
next_asked (Some Delete) t m now = omega arith
next_asked (Some DeleteStrict) t m now = omega arith

abbrev AnyMod : FlowMod → Type 0
AnyMod m = Unit {0}

next_change : IsChange AnyMod NextRises
next_change = record {
  same = λ x. omega arith;
  chained = λ x y z f g. omega (arith, f, g);
  message = λ m now x g. next_asked (command_at m.command) x.table m now;
  time = λ now x. omega arith;
  removal = λ serial x. omega arith;
  count = λ serial now x. omega arith;
}

any_body : (body : Body) → GoodBody AnyMod body
any_body (bodies.FlowMod change) = tt
any_body body = tt

any_event : (e : Event) → GoodEvent AnyMod e
any_event (events.Up who arp) = tt
any_event (events.Msg session frame) = λ m e. any_body m.body
any_event (events.Gone session) = tt
any_event (events.Tick second) = tt
any_event (events.Take session) = tt
any_event (events.Policy v text) = tt

abbrev HasNext : MemberOf → Type 0
HasNext x = x.kept.table.next + 1 < 2 ^ 64

next_before : (xs ys : List MemberOf) → Follow NextRises xs ys → AllByRecursion HasNext ys → AllByRecursion HasNext xs
next_before [] [] f h = tt
next_before [] (y ∷ ys) f h = tt
next_before (x ∷ xs) [] f h = absurd f
next_before (x ∷ xs) (y ∷ ys) f h =
    let le = f.0 in let lt = h.0 in (omega (arith, le, lt), next_before xs ys f.1 h.1)

numbers_go_on : (p : PolicyOf) (s : State) (e : Event) → GoesOn NextRises s (step_of p s e).1
numbers_go_on p s e = steps-go-on AnyMod NextRises next_change p s e (λ none. any_event e)

-- the next cookie keeps to 64 bits
pub cookie_fits : (p : PolicyOf) (s : State) (e : Event) → s.next_cookie < 2 ^ 64
    → (step_of p s e).1.next_cookie < 2 ^ 64
cookie_fits p s e lt = ((numbers_go_on p s e).1 lt).1

numbers_before : (p : PolicyOf) (s : State) (e : Event) → s.next_cookie < 2 ^ 64 → HasNumbers (step_of p s e).1
    → HasNumbers s
numbers_before p s e lt h =
    let on = numbers_go_on p s e in
    let le = (on.1 lt).0 in
    let few = h.cookies in
    record {
      cookies = omega (arith, le, few);
      serials = next_before s.members (step_of p s e).1.members on.0 h.serials;
    }

-- where numbers are left at the end of events, they were before them
pub numbers_left : (p : PolicyOf) (events : List Event) (s : State) → s.next_cookie < 2 ^ 64
    → HasNumbers (fold (after p) s events) → HasNumbers s
numbers_left p [] s lt h = h
numbers_left p (e ∷ es) s lt h =
    let next = (step_of p s e).1 in
    numbers_before p s e lt (numbers_left p es next (cookie_fits p s e lt) h)
