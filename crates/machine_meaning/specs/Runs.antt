-- A run: events one after the other.
use Rattle.std.specs.Prelude.{List, fold}
use Rattle.policies.specs.Policies.{PolicyOf}
use Rattle.machine_meaning.specs.States.{State, opening}
use Rattle.machine_meaning.specs.Steps.{step_of}
use Rattle.events.specs.declared.event.Event.{Event}

-- the state after an event
abbrev pub after : PolicyOf → State → Event → State
after p s e = (step_of p s e).1

-- the state after events, from the opening state on
abbrev pub run_of : PolicyOf → List Event → State
run_of p events = fold (after p) (opening p) events
