-- What an event tells, and what the counts take over of it before it acts.
use Rattle.std.specs.Prelude.{◌≡◌, ℕ, List, Some, slice_get}
use Rattle.cv_io.specs.declared.leaf.Who.{Who}
use Rattle.cv_io.specs.declared.leaf.Who.TheVariants.{Switch}
use Rattle.of10_frames.specs.Frames.{IsFrame}
use Rattle.event_acts.specs.CookieCounts.{AreLast}
use Rattle.event_acts.specs.Heard.{IsHeard, heard_in}
use Rattle.machine_meaning.specs.States.{State, SwitchOf}
use Rattle.events.specs.declared.event.Event.{Event}
use Rattle.events.specs.declared.event.Event.TheVariants.{Msg}
use Rattle.event_acts.specs.declared.heard.Heard.{Heard}
use Rattle.event_acts.specs.declared.heard.Heard.TheVariants.{Nothing}

-- a frame of a session: only that of a switch tells the machine something here
abbrev pub sent_heard : Who → List ℕ → Heard
sent_heard (Switch n) frame = heard_in frame
sent_heard who frame = Nothing

-- what an event tells
abbrev pub event_heard : Event → Heard
event_heard (Msg session frame) = sent_heard session.who frame
event_heard e = Nothing

-- a frame that an event brings is whole
abbrev pub IsWhole : Event → Type 0
IsWhole (Msg session frame) = IsFrame frame
IsWhole e = Unit {0}

-- the numbers of a removal that a session tells are counted
abbrev pub AreTakenOver : Who → Heard → State → Type 0
AreTakenOver (Switch n) heard s =
    (x : SwitchOf) → slice_get s.switches n ≡ Some x → AreLast n x.known heard s.counts
AreTakenOver who heard s = Unit {0}

-- those that an event tells are counted
abbrev pub IsTakenOver : Event → Heard → State → Type 0
IsTakenOver (Msg session frame) heard s = AreTakenOver session.who heard s
IsTakenOver e heard s = Unit {0}

-- it was heard of the event, and what it tells is taken over in the state
pub record IsHeardOf (e : Event) (heard : Heard) (s : State) : Type 0 where
  pub tells : heard ≡ event_heard e
  pub fits : IsHeard heard
  pub taken_over : IsTakenOver e heard s
