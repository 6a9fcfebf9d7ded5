-- What holds of a state after any step: where it holds if nothing changes, if something is taken, and after phases.
use Rattle.std.proofs.Common.{◌≡◌, ◌∙◌, ℕ, ◌&&◌, Bool, true, false, Option, Some, None, refl}
use Rattle.cv_io.specs.declared.leaf.Session.{Session}
use Rattle.cv_io.specs.declared.leaf.Who.{Who}
use Rattle.cv_io.specs.declared.leaf.Who.TheVariants.{Audit, Member, Switch}
use Rattle.policies.specs.Policies.{PolicyOf}
use Rattle.policy_meaning.proofs.Booleans.{split_and}
use Rattle.stats_map.specs.Counting.{CountsOf}
use Rattle.machine_meaning.specs.Glances.{closed_unless, glance_of, is_frame, is_present}
use Rattle.machine_meaning.specs.Hearing.{heard}
use Rattle.machine_meaning.specs.Phases.{draft_of, slow}
use Rattle.machine_meaning.specs.Putting.{put}
use Rattle.machine_meaning.specs.Rounds.{Closing}
use Rattle.machine_meaning.specs.States.{State}
use Rattle.machine_meaning.specs.Steps.{step_by, step_of}
use Rattle.machine_meaning.specs.Takings.{left_after}
use Rattle.events.specs.declared.event.Event.{Event}
use Rattle.events.specs.declared.event.Event.TheVariants as events
use Rattle.events.specs.declared.event.Reply.{Reply}
use Rattle.machine_meaning.proofs.Views.{IsHeard}

-- what is heard doesn't hang on counts
present_still : (s : State) (counts : CountsOf) (who : Who) (round : ℕ)
    → is_present (record s { counts = counts }) (record { who = who; round = round })
    ≡ is_present s (record { who = who; round = round })
present_still s counts (Member n) round = refl
present_still s counts (Switch n) round = refl
present_still s counts Audit round = refl

not_closed : (b : Bool) → closed_unless b ≡ None → b ≡ true
not_closed true e = refl
not_closed false e = absurd (cc e)

-- an event that isn't answered at once is heard
pub is_heard : (p : PolicyOf) (s : State) (e : Event) → glance_of p s e ≡ None → IsHeard (heard s e) e
is_heard p s (events.Up who arp) g = tt
is_heard p s (events.Msg session frame) g =
    present_still s (heard s (events.Msg session frame)).counts session.who session.round
    ∙ (split_and (is_frame frame) (is_present s session) (not_closed (is_frame frame && is_present s session) g)).1
is_heard p s (events.Gone session) g = tt
is_heard p s (events.Tick second) g = tt
is_heard p s (events.Take session) g = tt
is_heard p s (events.Policy v text) g = tt

module _ (R : State → Type 0) (p : PolicyOf) (s : State) (stays : R s)
    (left : (session : Session) → R (left_after session s)) where
  -- an event that goes through the phases
  abbrev Drafted : Event → Type 0
  Drafted e = (c : Closing) → IsHeard (heard s e) e → R (put p (draft_of p (heard s e) e c))

  forth : (e : Event) → glance_of p s e ≡ None → Drafted e → R (step_by None p s e).1
  forth (events.Up who arp) g h =
      let e = events.Up who arp in h (slow p (heard s e) e) (is_heard p s e g)
  forth (events.Msg session frame) g h =
      let e = events.Msg session frame in h (slow p (heard s e) e) (is_heard p s e g)
  forth (events.Gone session) g h =
      let e = events.Gone session in h (slow p (heard s e) e) (is_heard p s e g)
  forth (events.Tick second) g h =
      let e = events.Tick second in h (slow p (heard s e) e) (is_heard p s e g)
  forth (events.Take session) g h = left session
  forth (events.Policy v text) g h =
      let e = events.Policy v text in h (slow p (heard s e) e) (is_heard p s e g)

  pub each_step : (e : Event) → Drafted e → R (step_of p s e).1
  each_step e h = by (glance_of p s e) refl
    where
      by : (o : Option Reply) → glance_of p s e ≡ o → R (step_by o p s e).1
      by (Some reply) g = stays
      by None g = forth e g h
