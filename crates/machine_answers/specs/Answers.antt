-- How the machine answers sessions.
use Rattle.std.specs.Prelude.{◌≡◌, ◌<◌, ◌≤◌, ℕ, Bool, true, false, List, is_some, length}
use Rattle.cv_io.specs.declared.leaf.Session.{Session}
use Rattle.cv_io.specs.declared.leaf.Who.{Who}
use Rattle.cv_io.specs.declared.leaf.Who.TheVariants.{Member, Switch}
use Rattle.events.specs.declared.event.Event.{Event}
use Rattle.events.specs.declared.event.Event.TheVariants.{Gone, Msg, Tick}
use Rattle.events.specs.declared.event.Reply.{Reply}
use Rattle.of10_frames.specs.Frames.{IsFrame}
use Rattle.policies.specs.Policies.{PolicyOf}
use Rattle.machine_meaning.specs.Glances.{glance_of}
use Rattle.machine_meaning.specs.Sessions.{outbox_of}
use Rattle.machine_meaning.specs.States.{State, opening}
use Rattle.machine_meaning.specs.Steps.{step_of}
use Rattle.lock_desk.specs.Hosts.{IsDone, IsHeard, IsOpened, IsTaken}

-- the event changes nothing
abbrev pub is_idle : PolicyOf → State → Event → Bool
is_idle p s e = is_some (glance_of p s e)

-- the reply to it
abbrev pub reply_in : PolicyOf → State → Event → Reply
reply_in p s e = (step_of p s e).0

-- the state has this member or switch
abbrev pub HasSession : State → Who → Type 0
HasSession s who = is_some (outbox_of s who) ≡ true

-- as the machine is opened it has the members and the switches of the policy
abbrev pub OpeningHasSessions : Type 0
OpeningHasSessions =
    (p : PolicyOf) (n : ℕ) → (n < length p.members → HasSession (opening p) (Member n))
    × (n < length p.switches → HasSession (opening p) (Switch n))

-- and has them after any step
abbrev pub SessionsStay : Type 0
SessionsStay = (p : PolicyOf) (s : State) (e : Event) (who : Who) → HasSession s who → HasSession (step_of p s e).1 who

-- who comes up does so in some round
abbrev pub SessionsOpen : Type 0
SessionsOpen =
    (p : PolicyOf) (s : State) (who : Who) (arp : Bool) → HasSession s who
    → IsOpened (is_idle p) (reply_in p) s who arp

-- a frame is done; or it is refused, and then the session has ended
abbrev pub MessagesAreHeard : Type 0
MessagesAreHeard =
    (p : PolicyOf) (s : State) (session : Session) (frame : List ℕ) → IsFrame frame
    → IsHeard (is_idle p) (reply_in p) s session (Msg session frame)

-- so is a going
abbrev pub GoingsAreHeard : Type 0
GoingsAreHeard =
    (p : PolicyOf) (s : State) (session : Session) → IsHeard (is_idle p) (reply_in p) s session (Gone session)

-- a second that changes anything is done
abbrev pub SecondsAreDone : Type 0
SecondsAreDone = (p : PolicyOf) (s : State) (second : ℕ) → IsDone (is_idle p) (reply_in p) s (Tick second)

-- one that is idle is not above the moment, and one that isn't is the moment then
abbrev pub SecondsAreTold : Type 0
SecondsAreTold =
    (p : PolicyOf) (s : State) (second : ℕ) → (is_idle p s (Tick second) ≡ true → second ≤ s.moment)
    × (is_idle p s (Tick second) ≡ false → second ≤ (step_of p s (Tick second)).1.moment)

-- the moment goes on
abbrev pub MomentsGoOn : Type 0
MomentsGoOn = (p : PolicyOf) (s : State) (e : Event) → s.moment ≤ (step_of p s e).1.moment

-- a taking finds a message; or nothing waits; or the session has ended
abbrev pub TakingsAreAnswered : Type 0
TakingsAreAnswered = (p : PolicyOf) (s : State) (session : Session) → IsTaken (is_idle p) (reply_in p) s session
