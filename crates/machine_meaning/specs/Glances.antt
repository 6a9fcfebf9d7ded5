-- Events that change nothing.
use Rattle.std.specs.Prelude.{ℕ, Bool, false, ◌==◌, ◌&&◌, nat_le, List, Option, Some, None, if◌then◌else◌, is_some}
use Rattle.std.specs.Prelude.{length}
use Rattle.std.specs.Option.{option_map_or}
use Rattle.cv_io.specs.declared.leaf.Session.{Session}
use Rattle.of10_frames.specs.Wire.{length_field}
use Rattle.outbox.specs.Outboxes.{OutboxOf, is_open}
use Rattle.policies.specs.Policies.{PolicyOf}
use Rattle.machine_meaning.specs.Replacing.{is_expression_for}
use Rattle.machine_meaning.specs.Sessions.{outbox_of}
use Rattle.machine_meaning.specs.States.{State}
use Rattle.machine_meaning.specs.Takings.{takes}
use Rattle.events.specs.declared.event.Event.{Event}
use Rattle.events.specs.declared.event.Event.TheVariants.{Up, Msg, Gone, Tick, Take, Policy}
use Rattle.events.specs.declared.event.Reply.{Reply}
use Rattle.events.specs.declared.event.Reply.TheVariants.{Done, Taken, Closed}

-- the bytes are one whole frame
abbrev pub is_frame : List ℕ → Bool
is_frame bytes = nat_le 8 (length bytes) && (length_field bytes == length bytes)

-- the session is up, in its round
abbrev pub is_present : State → Session → Bool
is_present s session = option_map_or (λ (o : OutboxOf). is_open o session.round) (outbox_of s session.who) false

-- Closed, unless the test holds
abbrev pub closed_unless : Bool → Option Reply
closed_unless test = if test then None else Some Closed

-- a taking that finds nothing changes nothing
abbrev pub unless_taken : Reply → Option Reply
unless_taken (Taken message) = None
unless_taken reply = Some reply

-- the reply to an event that changes nothing
abbrev pub glance_of : PolicyOf → State → Event → Option Reply
glance_of p s (Up who arp) = closed_unless (is_some (outbox_of s who))
glance_of p s (Msg session frame) = closed_unless (is_frame frame && is_present s session)
glance_of p s (Gone session) = closed_unless (is_present s session)
glance_of p s (Tick second) = if nat_le second s.moment then Some Done else None
glance_of p s (Take session) = unless_taken (takes s session)
glance_of p s (Policy v text) = closed_unless (is_expression_for p v text)
