-- What a step puts to a switch, and what that makes of the switch's table.
use Rattle.std.specs.Prelude.{ℕ, Bool, true, false, Option, Some, None, List, [], map}
use Rattle.std.specs.Option.{option_map_or}
use Rattle.install_plan.specs.Tables.{entry_of}
use Rattle.policies.specs.Policies.{PolicyOf}
use Rattle.switch_meaning.specs.BatchLaw.{IsTableOf}
use Rattle.switch_meaning.specs.Keys.{flow_of}
use Rattle.switch_meaning.specs.declared.entry.FlowEntry.{FlowEntry}
use Rattle.switch_meaning.specs.declared.entry.PhysEntry.{PhysEntry}
use Rattle.switch_state.specs.Frames.{bodies_in}
use Rattle.switch_state.specs.Writing.{MayMake}
use Rattle.machine_meaning.specs.Drafts.{Draft}
use Rattle.machine_meaning.specs.Glances.{glance_of}
use Rattle.machine_meaning.specs.Hearing.{heard}
use Rattle.machine_meaning.specs.Phases.{drafted}
use Rattle.machine_meaning.specs.Putting.{for_switch}
use Rattle.machine_meaning.specs.Sessions.{is_switch, standing_of}
use Rattle.machine_meaning.specs.States.{State}
use Rattle.machine_meaning.specs.Steps.{step_of}
use Rattle.events.specs.declared.event.Event.{Event}
use Rattle.events.specs.declared.event.Event.TheVariants.{Take}
use Rattle.events.specs.declared.event.Reply.{Reply}

-- the entries that stand on a switch
abbrev pub standing_at : State → ℕ → List PhysEntry
standing_at s n = map entry_of (standing_of s n)

-- as the switch has them
abbrev pub table_at : State → ℕ → List FlowEntry
table_at s n = map flow_of (standing_at s n)

-- the draft of an event that goes through the phases
abbrev pub draft_at : Option Reply → PolicyOf → State → Event → Option Draft
draft_at (Some reply) p s e = None
draft_at None p s (Take session) = None
draft_at None p s e = Some (drafted p (heard s e) e)

abbrev pub draft_in : PolicyOf → State → Event → Option Draft
draft_in p s e = draft_at (glance_of p s e) p s e

-- the messages that an event puts to a switch
abbrev pub put_by : PolicyOf → State → Event → ℕ → List (List ℕ)
put_by p s e n = option_map_or (λ (d : Draft). for_switch d n) (draft_in p s e) []

-- the round of the switch begins in the event
abbrev pub begins_at : PolicyOf → State → Event → ℕ → Bool
begins_at p s e n = option_map_or (λ (d : Draft). is_switch n d.begun) (draft_in p s e) false

-- what a switch had as the event began: any entries where its round begins, else those that stood
abbrev pub HadBefore : Bool → List PhysEntry → List FlowEntry → Type 0
HadBefore true standing old = Unit {0}
HadBefore false standing old = IsTableOf standing old

-- a switch that takes what an event puts to it, the messages between two barriers in any order, has the entries that
-- stand after the event
abbrev pub IsWritten : PolicyOf → State → Event → ℕ → Type 0
IsWritten p s e n =
    (old new : List FlowEntry) → HadBefore (begins_at p s e n) (standing_at s n) old
    → MayMake (bodies_in (put_by p s e n)) old new
    → IsTableOf (standing_at (step_of p s e).1 n) new
