-- One step of the machine: an event, the reply to it, and the state after it.
use Rattle.std.specs.Prelude.{Option, Some, None}
use Rattle.policies.specs.Policies.{PolicyOf}
use Rattle.machine_meaning.specs.Drafts.{Draft}
use Rattle.machine_meaning.specs.Glances.{glance_of}
use Rattle.machine_meaning.specs.Hearing.{heard}
use Rattle.machine_meaning.specs.Phases.{drafted}
use Rattle.machine_meaning.specs.Putting.{put}
use Rattle.machine_meaning.specs.States.{State}
use Rattle.machine_meaning.specs.Takings.{left_after, takes}
use Rattle.events.specs.declared.event.Event.{Event}
use Rattle.events.specs.declared.event.Event.TheVariants.{Take}
use Rattle.events.specs.declared.event.Reply.{Reply}

-- the reply of a draft, and the state with what it says
abbrev pub done : PolicyOf → Draft → Reply × State
done p d = (d.reply, put p d)

-- a taking changes what waits; each other event is heard, and goes through the phases
abbrev pub proceed : PolicyOf → State → Event → Reply × State
proceed p s (Take session) = (takes s session, left_after session s)
proceed p s e = done p (drafted p (heard s e) e)

-- an event that changes nothing is answered at once
abbrev pub step_by : Option Reply → PolicyOf → State → Event → Reply × State
step_by (Some reply) p s e = (reply, s)
step_by None p s e = proceed p s e

abbrev pub step_of : PolicyOf → State → Event → Reply × State
step_of p s e = step_by (glance_of p s e) p s e
