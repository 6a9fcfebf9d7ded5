-- What the machine means answers sessions as its states do.
use Rattle.std.proofs.Common.{◌≡◌, ◌≤◌, ℕ, Bool, true, false, List, sym, ap, subst, le_trans}
use Rattle.cv_io.specs.declared.leaf.Session.{Session}
use Rattle.cv_io.specs.declared.leaf.Who.{Who}
use Rattle.events.specs.declared.event.Event.{Event}
use Rattle.events.specs.declared.event.Event.TheVariants.{Gone, Msg, Tick}
use Rattle.events.specs.declared.event.Reply.{Reply}
use Rattle.event_composes.proofs.Meanings.{next_is_step}
use Rattle.event_composes.specs.Meanings.{StateData, is_idle, next_data, reply_to, state_in}
use Rattle.machine_meaning.specs.States.{State}
use Rattle.of10_frames.specs.Frames.{IsFrame}
use Rattle.lock_desk.specs.Hosts.{IsDone, IsHeard, IsOpened, IsTaken}
use Rattle.machine_answers.specs.Answers.{HasSession}
use Rattle.machine_answers.proofs.Steps.{done_seconds, heard_goings, heard_messages, later_moments, opens as comes}
use Rattle.machine_answers.proofs.Steps.{stay}
use Rattle.machine_answers.proofs.Steps.{told_seconds}
use Rattle.machine_answers.proofs.Takings.{answers}
use Rattle.policy_serving.specs.Proxies.{HasOne, HasTold}

pub stays : (d : StateData) (e : Event) (who : Who) → HasOne d who → HasOne (next_data d e) who
unfolding HasOne
stays d e who has =
    subst (λ (s : State). HasSession s who) (sym (ap (λ (q : Reply × State). q.1) (next_is_step d e).1))
    (stay d.plan (state_in d) e who has)

pub opens : (d : StateData) (who : Who) (arp : Bool) → HasOne d who → IsOpened is_idle reply_to d who arp
unfolding is_idle reply_to HasOne
opens d who arp has = comes d.plan (state_in d) who arp has

pub hears : (d : StateData) (session : Session) (frame : List ℕ) → IsFrame frame
    → IsHeard is_idle reply_to d session (Msg session frame)
unfolding is_idle reply_to
hears d session frame whole = heard_messages d.plan (state_in d) session frame whole

pub goes : (d : StateData) (session : Session) → IsHeard is_idle reply_to d session (Gone session)
unfolding is_idle reply_to
goes d session = heard_goings d.plan (state_in d) session

pub ticks : (d : StateData) (second : ℕ) → IsDone is_idle reply_to d (Tick second)
unfolding is_idle reply_to
ticks d second = done_seconds d.plan (state_in d) second

-- a second that is idle was told
pub told : (d : StateData) (second : ℕ) → is_idle d (Tick second) ≡ true → HasTold d second
unfolding is_idle HasTold
told d second i = (told_seconds d.plan (state_in d) second).0 i

-- one that isn't is told then
pub tells : (d : StateData) (second : ℕ) → is_idle d (Tick second) ≡ false → HasTold (next_data d (Tick second)) second
unfolding is_idle HasTold
tells d second i =
    subst (λ (s : State). second ≤ s.moment) (sym (ap (λ (q : Reply × State). q.1) (next_is_step d (Tick second)).1))
    ((told_seconds d.plan (state_in d) second).1 i)

-- what was told was told ever after
pub stays_told : (d : StateData) (e : Event) (second : ℕ) → HasTold d second → HasTold (next_data d e) second
unfolding HasTold
stays_told d e second h =
    subst (λ (s : State). second ≤ s.moment) (sym (ap (λ (q : Reply × State). q.1) (next_is_step d e).1))
    (le_trans h (later_moments d.plan (state_in d) e))

-- and so was each second before
pub earlier : (d : StateData) (second before : ℕ) → HasTold d second → before ≤ second → HasTold d before
unfolding HasTold
earlier d second before h le = le_trans le h

pub takes : (d : StateData) (session : Session) → IsTaken is_idle reply_to d session
unfolding is_idle reply_to
takes d session = answers d.plan (state_in d) session
