-- How many steps of composition an event takes, part by part.
use Rattle.std.proofs.Common.{◌≡◌, ◌∙◌, ℕ, zero, suc, ◌+◌, ◌-◌, ◌≤◌, Bool, true, false, true≢false, List, [], ◌∷◌, ◌++◌}
use Rattle.std.proofs.Common.{Option, Some, None, length, refl, sym, ap, ap₂, arith, subst}
use Rattle.std.specs.Prelude.{◌==◌, ◌&&◌, not, if◌then◌else◌, is_some}
use Rattle.std.proofs.lemmas.Bool.Decides.{nat_tests}
use Rattle.std.proofs.lemmas.List.{length-map}
use Rattle.agreement.specs.declared.state.Setting.{Setting}
use Rattle.composed_tables.specs.Composing.{ComposedOf}
use Rattle.composed_tables.specs.Rules.{RulesOf}
use Rattle.composed_tables.specs.Steps.{building_steps, setting_steps}
use Rattle.events.specs.declared.event.Event.{Event}
use Rattle.events.specs.declared.event.Event.TheVariants.{Up, Msg, Gone, Tick, Take, Policy}
use Rattle.policies.specs.Policies.{PolicyOf, plan}
use Rattle.setting_laws.specs.Mixed.{mixed}
use Rattle.virtual_topology.specs.declared.plan.TopologyPlan.{TopologyPlan}
use Rattle.machine_meaning.specs.Drafts.{Draft}
use Rattle.machine_meaning.specs.Glances.{glance_of}
use Rattle.machine_meaning.specs.Hearing.{heard}
use Rattle.machine_meaning.specs.Phases.{both, draft_of, is_empty, nobody, overfilled, settled_of, slow, slow_from}
use Rattle.machine_meaning.specs.Rounds.{Closing}
use Rattle.machine_meaning.specs.Settings.{setting_of}
use Rattle.machine_meaning.specs.States.{State}
use Rattle.machine_meaning.specs.Steps.{step_of}
use Rattle.machine_drafts.specs.MemberDrafts.{MemberDraftOf}
use Rattle.machine_drafts.specs.Machines.{MachineOf, bases_of, state_in_held, state_of}
use Rattle.machine_drafts.specs.Moments.{taking_in}
use Rattle.machine_drafts.specs.Outcomes.{Bases, state_in}
use Rattle.machine_drafts.specs.declared.held.Held.{Held}
use Rattle.machine_drafts.specs.declared.outcome.Outcome.{Outcome}
use Rattle.event_composes.specs.Costs.{building_steps_of, cost_in, cost_of, first_steps, followed_cost, is_followed}
use Rattle.event_composes.specs.Costs.{is_replaced}
use Rattle.event_composes.specs.Costs.{kept_steps, most_in, most_of, sum_below, turning_from, turning_steps}
use Rattle.event_composes.specs.Costs.{turning_steps_at}
use Rattle.event_composes.specs.Costs.{unless_still, whole_cost}
use Rattle.event_composes.specs.Kept.{IsComposedOf, standing_state}
use Rattle.event_composes.specs.Meanings.{data_in}
use Rattle.event_composes.specs.Turning.{stood_in}
use Rattle.event_composes.proofs.Meanings.{meanings_are_states}

-- numbers -----------------------------------------------------------------------------------------------------------

pub no_more : (a b : ℕ) → a ≤ a + b
no_more a b = omega arith

-- no sum is below that of fewer numbers
sum_more : (f : ℕ → ℕ) (k d : ℕ) → sum_below f k ≤ sum_below f (k + d)
sum_more f k zero =
    let same : k + 0 ≡ k = omega arith in rw same (omega arith)
sum_more f k (suc d) =
    let fewer : sum_below f k ≤ sum_below f (k + d) = sum_more f k d in
    let last : sum_below f (suc (k + d)) ≡ sum_below f (k + d) + f (k + d) = refl in
    let next : k + suc d ≡ suc (k + d) = omega arith in
    rw next (omega (arith, fewer, last))

-- one number more
pub one_more : (f : ℕ → ℕ) (a b c n : ℕ) → b ≤ a + sum_below f n → c ≤ b + f n → c ≤ a + sum_below f (n + 1)
one_more f a b c n so_far more =
    let last : sum_below f (suc n) ≡ sum_below f n + f n = refl in
    let next : n + 1 ≡ suc n = omega arith in
    rw next (omega (arith, so_far, more, last))

-- what is made anew only where nothing is kept
spent : (k : Bool) (a b c f m : ℕ) → b ≤ a + f → c ≤ b + (if k then 0 else m) → c ≤ a + (f + m)
spent true a b c f m first last = omega (arith, first, last)
spent false a b c f m first last = omega (arith, first, last)

spent_kept : (k g : Bool) (a b c f m : ℕ) → (g ≡ true → k ≡ true) → b ≤ a + f → c ≤ b + (if k then 0 else m)
    → c ≤ a + (f + (if g then 0 else m))
spent_kept true true a b c f m kept first last = omega (arith, first, last)
spent_kept true false a b c f m kept first last = omega (arith, first, last)
spent_kept false true a b c f m kept first last = absurd (true≢false (sym (kept refl)))
spent_kept false false a b c f m kept first last = omega (arith, first, last)

more_yet : (a b m n : ℕ) → b ≤ a + m → m ≤ n → b ≤ a + n
more_yet a b m n h more = omega (arith, h, more)

-- and where memory is wanted before
wanting : (a b f m : ℕ) → b ≤ a + f → b ≤ a + (f + m)
wanting a b f m h = omega (arith, h)

-- members -----------------------------------------------------------------------------------------------------------

-- the topology stays that of the policy
pub plan_kept : (p : PolicyOf) (s : State) (c : ComposedOf) → IsComposedOf p s c → (r : RulesOf)
    → ((was : RulesOf) → c.rules ≡ Some was → r.hops.plan ≡ was.hops.plan) → r.hops.plan ≡ plan p
plan_kept p s c h r kept = by c.rules refl
  where
    by : (o : Option RulesOf) → c.rules ≡ o → r.hops.plan ≡ plan p
    by None e = absurd (true≢false (sym h.compiled ∙ ap is_some e))
    by (Some was) e = kept was e ∙ h.plan_is was e

-- a member's change takes what the change of the setting does
pub applied : (p : PolicyOf) (s t : State) (n : ℕ) (c : ComposedOf) (a b : ℕ) → IsComposedOf p (mixed n s t) c
    → ((r : RulesOf) → c.rules ≡ Some r
    → b ≤ a + setting_steps r.hops.plan (setting_of p (mixed n s t)) (setting_of p (mixed (n + 1) s t)))
    → b ≤ a + turning_steps_at p s t n
unfolding turning_steps_at
applied p s t n c a b h steps = by c.rules refl
  where
    by : (o : Option RulesOf) → c.rules ≡ o
        → b ≤ a + setting_steps (plan p) (setting_of p (mixed n s t)) (setting_of p (mixed (n + 1) s t))
    by None e = absurd (true≢false (sym h.compiled ∙ ap is_some e))
    by (Some r) e =
        subst
        (λ (z : TopologyPlan).
        b ≤ a + setting_steps z (setting_of p (mixed n s t)) (setting_of p (mixed (n + 1) s t)))
        (h.plan_is r e) (steps r e)

-- so many members changed
pub all_turned : (p : PolicyOf) (o : Outcome) (a b n : ℕ)
    → b ≤ a + sum_below (turning_steps_at p (stood_in o) (state_in o)) n → n ≤ length o.members
    → b ≤ a + turning_steps p (stood_in o) (state_in o)
unfolding turning_steps
all_turned p o a b n steps few =
    let f = turning_steps_at p (stood_in o) (state_in o) in
    let long : length (state_in o).members ≡ length o.members =
    length-map o.members (λ (m : MemberDraftOf). m.now) in
    let end : n + (length o.members - n) ≡ length o.members = omega (arith, few) in
    let more : sum_below f n ≤ sum_below f (length (state_in o).members) =
    subst (λ (k : ℕ). sum_below f n ≤ sum_below f k) (end ∙ sym long) (sum_more f n (length o.members - n)) in
    more_yet a b (sum_below f n) (sum_below f (length (state_in o).members)) steps more

-- the draft of an event that settled changes members from how they stand
pub drafted_steps : (p : PolicyOf) (h : Held) (now : ℕ) (b : Bases) (d x : Draft) → b ≡ bases_of now h → d ≡ x
    → turning_from p b d.state ≡ turning_steps p (state_in_held h) x.state
unfolding turning_steps turning_steps_at
drafted_steps p h now b d x beside is i = turning_steps p (standing_state (beside i) (is i).state) (is i).state

-- from scratch ------------------------------------------------------------------------------------------------------

pub built_steps : (p : PolicyOf) (s : State) (t : Setting) (topology : TopologyPlan) (a b : ℕ) → t ≡ setting_of p s
    → topology ≡ plan p → b ≤ a + building_steps topology t → b ≤ a + building_steps_of p s
unfolding building_steps_of
built_steps p s t topology a b same is steps =
    subst (λ (z : Setting). b ≤ a + building_steps (plan p) z) same
    (subst (λ (z : TopologyPlan). b ≤ a + building_steps z t) is steps)

-- sessions that are closed as slow ----------------------------------------------------------------------------------

not_zero : (n : ℕ) → (suc n == 0) ≡ false
not_zero n = grind (arith, nat_tests)

first_false : (a b : Bool) → a ≡ false → (a && b) ≡ false
first_false true b h = absurd (true≢false h)
first_false false b h = refl

second_false : (a b : Bool) → b ≡ false → (a && b) ≡ false
second_false true b h = h
second_false false b h = refl

both_true : (a b : Bool) → (a && not b) ≡ true → (a ≡ true) × (b ≡ false)
both_true true true h = absurd (true≢false (sym h))
both_true true false h = (refl, refl)
both_true false b h = absurd (true≢false (sym h))

some_still : (xs ys us vs : List ℕ) → ((length xs == 0) && (length us == 0)) ≡ false
    → ((length (xs ++ ys) == 0) && (length (us ++ vs) == 0)) ≡ false
some_still [] ys [] vs h = absurd (true≢false h)
some_still [] ys (u ∷ us) vs h =
    second_false (length ys == 0) (length (u ∷ (us ++ vs)) == 0) (not_zero (length (us ++ vs)))
some_still (x ∷ xs) ys us vs h =
    first_false (length (x ∷ (xs ++ ys)) == 0) (length (us ++ vs) == 0) (not_zero (length (xs ++ ys)))

some_added : (xs ys us vs : List ℕ) → ((length ys == 0) && (length vs == 0)) ≡ false
    → ((length (xs ++ ys) == 0) && (length (us ++ vs) == 0)) ≡ false
some_added [] ys [] vs h = h
some_added [] ys (u ∷ us) vs h =
    second_false (length ys == 0) (length (u ∷ (us ++ vs)) == 0) (not_zero (length (us ++ vs)))
some_added (x ∷ xs) ys us vs h =
    first_false (length (x ∷ (xs ++ ys)) == 0) (length (us ++ vs) == 0) (not_zero (length (xs ++ ys)))

slow_still : (n : ℕ) (p : PolicyOf) (s : State) (e : Event) (c : Closing) → is_empty c ≡ false
    → is_empty (slow_from n p s e c) ≡ false
slow_still zero p s e c h = h
slow_still (suc n) p s e c h =
    by (is_empty more)
    (slow_still n p s e (both c more) (some_still c.switches more.switches c.members more.members h))
  where
    more : Closing
    more = overfilled s (draft_of p s e c)

    by : (b : Bool) → is_empty (slow_from n p s e (both c more)) ≡ false
        → is_empty (if b then c else slow_from n p s e (both c more)) ≡ false
    by true again = h
    by false again = again

-- where some were closed as slow, some are in all
pub slow_some : (n : ℕ) (p : PolicyOf) (s : State) (e : Event) (c more : Closing) → is_empty more ≡ false
    → slow_from n p s e (both c more) ≡ slow p s e → is_empty (slow p s e) ≡ false
slow_some n p s e c more some all =
    ap is_empty (sym all)
    ∙ slow_still n p s e (both c more) (some_added c.switches more.switches c.members more.members some)

-- where what is kept follows, none are, and no expression is replaced
pub none_slow : (p : PolicyOf) (s : State) (e : Event) → is_followed p s e ≡ true → is_empty (slow p s e) ≡ true
none_slow p s e h = (both_true (is_empty (slow p s e)) (is_replaced (settled_of p s e nobody).reply) h).0

pub none_replaced : (p : PolicyOf) (s : State) (e : Event) → is_followed p s e ≡ true
    → is_replaced (settled_of p s e nobody).reply ≡ false
none_replaced p s e h = (both_true (is_empty (slow p s e)) (is_replaced (settled_of p s e nobody).reply) h).1

-- what is kept takes what it takes
pub kept_steps_of : (k : Option ComposedOf) (x : ComposedOf) (a b n : ℕ) → k ≡ Some x → b ≤ a + n
    → b ≤ a + kept_steps k n
kept_steps_of k x a b n is h = subst (λ (o : Option ComposedOf). b ≤ a + kept_steps o n) (sym is) h

-- attempts ----------------------------------------------------------------------------------------------------------

-- what an attempt takes, where the composed part is kept in the first one alone
pub tried : (p : PolicyOf) (s : State) (e : Event) (c : Closing) (k : Option ComposedOf) (a b d : ℕ)
    → (is_some k ≡ true → c ≡ nobody) → b + kept_steps k (first_steps p s e) ≤ a + first_steps p s e
    → d ≤ b + kept_steps k (turning_steps p s (settled_of p s e c).state) → d ≤ a + first_steps p s e
tried p s e c None a b d first so_far more = omega (arith, so_far, more)
tried p s e c (Some x) a b d first so_far more =
    let here : d ≤ b + first_steps p s e =
    subst (λ (z : Closing). d ≤ b + turning_steps p s (settled_of p s e z).state) (first refl) more in
    omega (arith, so_far, here)

-- at a state that is the same
pub tried_at : (p : PolicyOf) (s : State) (e : Event) (c : Closing) (k : Option ComposedOf) (a b d : ℕ) (x : State)
    → x ≡ s → (is_some k ≡ true → c ≡ nobody) → b + kept_steps k (first_steps p s e) ≤ a + first_steps p s e
    → d ≤ b + kept_steps k (turning_steps p x (settled_of p x e c).state) → d ≤ a + first_steps p s e
tried_at p s e c k a b d x same first so_far more =
    tried p s e c k a b d first so_far
    (subst (λ (z : State). d ≤ b + kept_steps k (turning_steps p z (settled_of p z e c).state)) same more)

-- where nothing is kept nothing more is taken
pub none_more : (a m : ℕ) → a ≤ m → a + 0 ≤ m
none_more a m h = omega (arith, h)

-- as the attempts begin
pub begun_rest : (p : PolicyOf) (s : State) (e : Event) (n : ℕ) (c : Closing)
    → n ≡ length s.switches + length s.members → c ≡ nobody → slow_from n p s e c ≡ slow p s e
begun_rest p s e n c many none = ap₂ (λ (k : ℕ) (z : Closing). slow_from k p s e z) many none

pub begun_steps : (k : Option ComposedOf) (a f : ℕ) → a + kept_steps k f ≤ a + f
begun_steps None a f = omega arith
begun_steps (Some x) a f = omega arith

-- an event that goes through the phases -----------------------------------------------------------------------------

pub whole : (p : PolicyOf) (s : State) (e : Event) (h after : State) (a b c : ℕ) (k : Bool) → h ≡ heard s e
    → (step_of p s e).1 ≡ after → b ≤ a + first_steps p h e
    → c ≤ b + (if k then 0 else building_steps_of p after) → c ≤ a + whole_cost p s e
whole p s e h after a b c k hears is first last =
    spent k a b c (first_steps p (heard s e) e) (building_steps_of p (step_of p s e).1)
    (subst (λ (z : State). b ≤ a + first_steps p z e) hears first)
    (subst (λ (z : State). c ≤ b + (if k then 0 else building_steps_of p z)) (sym is) last)

pub followed : (p : PolicyOf) (s : State) (e : Event) (h after : State) (a b c : ℕ) (k : Bool) → h ≡ heard s e
    → (step_of p s e).1 ≡ after → (is_followed p h e ≡ true → k ≡ true) → b ≤ a + first_steps p h e
    → c ≤ b + (if k then 0 else building_steps_of p after) → c ≤ a + followed_cost p s e
followed p s e h after a b c k hears is kept first last =
    spent_kept k (is_followed p (heard s e) e) a b c (first_steps p (heard s e) e)
    (building_steps_of p (step_of p s e).1)
    (subst (λ (z : State). is_followed p z e ≡ true → k ≡ true) hears kept)
    (subst (λ (z : State). b ≤ a + first_steps p z e) hears first)
    (subst (λ (z : State). c ≤ b + (if k then 0 else building_steps_of p z)) (sym is) last)

-- where memory is wanted nothing is made anew
pub whole_wanting : (p : PolicyOf) (s : State) (e : Event) (h : State) (a b : ℕ) → h ≡ heard s e
    → b ≤ a + first_steps p h e → b ≤ a + whole_cost p s e
whole_wanting p s e h a b hears first =
    let f = first_steps p (heard s e) e in
    let now : b ≤ a + f = subst (λ (z : State). b ≤ a + first_steps p z e) hears first in
    wanting a b f (building_steps_of p (step_of p s e).1) now

pub followed_wanting : (p : PolicyOf) (s : State) (e : Event) (h : State) (a b : ℕ) → h ≡ heard s e
    → b ≤ a + first_steps p h e → b ≤ a + followed_cost p s e
followed_wanting p s e h a b hears first =
    let f = first_steps p (heard s e) e in
    let now : b ≤ a + f = subst (λ (z : State). b ≤ a + first_steps p z e) hears first in
    wanting a b f (if is_followed p (heard s e) e then 0 else building_steps_of p (step_of p s e).1) now

-- any event ---------------------------------------------------------------------------------------------------------

pub not_still : {A : Type 0} (p : PolicyOf) (s : State) (e : Event) (at x : A) → glance_of p s e ≡ None
    → taking_in e ≡ None → x ≡ unless_still at (glance_of p s e) e x
not_still p s e at x g h = by e h ∙ sym (ap (λ o. unless_still at o e x) g)
  where
    by : (e : Event) → taking_in e ≡ None → x ≡ unless_still at None e x
    by (Take x) h = absurd (cc)
    by (Up who arp) h = refl
    by (Msg x frame) h = refl
    by (Gone x) h = refl
    by (Tick second) h = refl
    by (Policy v text) h = refl

-- of what a machine means
pub cost_is : (m : MachineOf) (e : Event) → cost_of m.plan (state_of m) e ≡ cost_in (data_in m) e
unfolding cost_in
cost_is m e =
    let is = meanings_are_states m in sym (λ i. cost_of (is.0 i) (is.1 i) e)

pub most_is : (m : MachineOf) (e : Event) → most_of m.plan (state_of m) e ≡ most_in (data_in m) e
unfolding most_in
most_is m e =
    let is = meanings_are_states m in sym (λ i. most_of (is.0 i) (is.1 i) e)
