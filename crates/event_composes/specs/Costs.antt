-- How many steps of composition an event takes at most.
use Rattle.std.specs.Prelude.{◌≡◌, ℕ, zero, suc, ◌+◌, ◌&&◌, not, Bool, true, false, Option, Some, None, if◌then◌else◌}
use Rattle.std.specs.Prelude.{length, map}
use Rattle.composed_tables.specs.Steps.{building_steps, setting_steps}
use Rattle.events.specs.declared.event.Event.{Event}
use Rattle.events.specs.declared.event.Event.TheVariants.{Take}
use Rattle.events.specs.declared.event.Reply.{Reply}
use Rattle.events.specs.declared.event.Reply.TheVariants.{Replaced}
use Rattle.policies.specs.Policies.{PolicyOf, plan}
use Rattle.setting_laws.specs.Mixed.{mixed}
use Rattle.setting_laws.specs.Staying.{kept_of}
use Rattle.machine_meaning.specs.Glances.{glance_of}
use Rattle.machine_meaning.specs.Hearing.{heard}
use Rattle.machine_meaning.specs.Phases.{is_empty, nobody, settled_of, slow}
use Rattle.machine_meaning.specs.Settings.{setting_of}
use Rattle.machine_meaning.specs.States.{State}
use Rattle.machine_meaning.specs.Steps.{step_of}
use Rattle.machine_drafts.specs.Outcomes.{Bases}
use Rattle.event_composes.specs.Kept.{standing_state}
use Rattle.event_composes.specs.Meanings.{StateData, state_in}

-- the sum over the numbers below so many
abbrev pub sum_below : (ℕ → ℕ) → ℕ → ℕ
sum_below f zero = 0
sum_below f (suc n) = sum_below f n + f n

-- as the member of a number changes, where those before it have changed
unfoldable pub turning_steps_at : PolicyOf → State → State → ℕ → ℕ
turning_steps_at p s t n = setting_steps (plan p) (setting_of p (mixed n s t)) (setting_of p (mixed (n + 1) s t))

-- as one member after the other changes, from one state to the other
unfoldable pub turning_steps : PolicyOf → State → State → ℕ
turning_steps p s t = sum_below (turning_steps_at p s t) (length t.members)

-- from how members stand beside a draft
abbrev pub turning_from : PolicyOf → Bases → State → ℕ
turning_from p b s = turning_steps p (standing_state b s) s

-- from scratch, of a state
unfoldable pub building_steps_of : PolicyOf → State → ℕ
building_steps_of p s = building_steps (plan p) (setting_of p s)

-- what is kept takes so many, and none where nothing is kept
abbrev pub kept_steps : {A : Type 0} → Option A → ℕ → ℕ
kept_steps None n = 0
kept_steps (Some x) n = n

-- an event acts in a state: to what settles then, where no session is closed as slow
abbrev pub first_steps : PolicyOf → State → Event → ℕ
first_steps p s e = turning_steps p s (settled_of p s e nobody).state

-- an expression was replaced
abbrev pub is_replaced : Reply → Bool
is_replaced Replaced = true
is_replaced _ = false

-- what is kept follows the event: no session is closed as slow, and no expression replaced
abbrev pub is_followed : PolicyOf → State → Event → Bool
is_followed p s e = is_empty (slow p s e) && not (is_replaced (settled_of p s e nobody).reply)

-- what is kept is made anew where it doesn't follow
abbrev pub followed_cost : PolicyOf → State → Event → ℕ
followed_cost p s e =
    first_steps p (heard s e) e
    + (if is_followed p (heard s e) e then 0 else building_steps_of p (step_of p s e).1)

-- and so it is where nothing was kept
abbrev pub whole_cost : PolicyOf → State → Event → ℕ
whole_cost p s e = first_steps p (heard s e) e + building_steps_of p (step_of p s e).1

-- what is answered at once and a taking have one answer, and every other event another
abbrev pub unless_still : {A : Type 0} → A → Option Reply → Event → A → A
unless_still at (Some reply) e x = at
unless_still at None (Take session) x = at
unless_still at None e x = x

-- what is kept as an event comes is kept as it ends, as long as numbers are left
abbrev pub stays_kept : PolicyOf → State → Event → Bool
stays_kept p s e = unless_still true (glance_of p s e) e (is_followed p (heard s e) e)

-- how many an event takes at most where the composed part is kept as it comes
abbrev pub cost_of : PolicyOf → State → Event → ℕ
cost_of p s e = unless_still 0 (glance_of p s e) e (followed_cost p s e)

-- and in any case
abbrev pub most_of : PolicyOf → State → Event → ℕ
most_of p s e = unless_still 0 (glance_of p s e) e (whole_cost p s e)

-- of what a machine means
unfoldable pub cost_in : StateData → Event → ℕ
cost_in d e = cost_of d.plan (state_in d) e

unfoldable pub most_in : StateData → Event → ℕ
most_in d e = most_of d.plan (state_in d) e

-- an event changes no member's table, no session is closed as slow, and no expression replaced
pub record IsStill (p : PolicyOf) (s : State) (e : Event) : Type 0 where
  pub tables : map kept_of (settled_of p (heard s e) e nobody).state.members ≡ map kept_of s.members
  pub none_slow : is_empty (slow p (heard s e) e) ≡ true
  pub none_replaced : is_replaced (settled_of p (heard s e) e nobody).reply ≡ false

-- then what is kept takes no step to follow it
abbrev pub StillTakesNone : Type 0
StillTakesNone = (d : StateData) (e : Event) → IsStill d.plan (state_in d) e → cost_in d e ≡ 0
