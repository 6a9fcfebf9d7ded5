-- An event that isn't answered at once is a taking, or goes through the phases.
use Rattle.std.proofs.Common.{◌≡◌, ◌∙◌, ℕ, ◌<◌, ◌^◌, List, Option, Some, None, length, refl, ap, subst, sym}
use Rattle.composed_tables.specs.Composing.{ComposedOf}
use Rattle.cv_io.specs.declared.leaf.Session.{Session}
use Rattle.policies.specs.Policies.{PolicyOf}
use Rattle.policies.specs.Sound.{IsSound}
use Rattle.stats_map.specs.Counting.{CountsOf}
use Rattle.stats_map.specs.Told.{HeldOf, told}
use Rattle.machine_meaning.specs.Events.{IsEvent}
use Rattle.machine_meaning.specs.Glances.{glance_of}
use Rattle.machine_meaning.specs.Hearing.{heard}
use Rattle.machine_meaning.specs.Laws.{SoundnessIsKept}
use Rattle.event_acts.specs.CookieCounts.{with_counts}
use Rattle.event_composes.specs.Kept.{IsKept, IsSoundWhile}
use Rattle.machine_drafts.specs.Machines.{HasAll, holding_of, state_held, state_in_held}
use Rattle.machine_drafts.specs.Moments.{taking_in}
use Rattle.machine_meaning.specs.Phases.{drafted}
use Rattle.machine_meaning.specs.States.{State}
use Rattle.machine_meaning.specs.Steps.{done, proceed, step_by, step_of}
use Rattle.machine_meaning.specs.Takings.{left_after, left_by, takes}
use Rattle.event_composes.specs.Settled.{IsSettledState}
use Rattle.events.specs.declared.event.Event.{Event}
use Rattle.events.specs.declared.event.Reply.{Reply}
use Rattle.machine_drafts.specs.declared.held.Held.{Held}
use Rattle.event_acts.specs.declared.hearing.CookieCount.{CookieCount}
use Rattle.hyper_core.proofs.Attempts.{has_all_kept}
use Rattle.event_composes.proofs.KeptOn.{kept_none, kept_taken, sound_stepped}
use Rattle.event_composes.proofs.StaysSettled.{drafted_settled, left_settled}
use Rattle.events.specs.declared.event.Event.TheVariants.{Up, Msg, Gone, Tick, Take, Policy}

proceed_taking : (p : PolicyOf) (s : State) (e : Event) (session : Session) → taking_in e ≡ Some session
    → proceed p s e ≡ (takes s session, left_after session s)
proceed_taking p s (Take x) session h = let same : x ≡ session = cc in ap (λ z. (takes s z, left_after z s)) same
proceed_taking p s (Up who arp) session h = absurd (cc)
proceed_taking p s (Msg x frame) session h = absurd (cc)
proceed_taking p s (Gone x) session h = absurd (cc)
proceed_taking p s (Tick second) session h = absurd (cc)
proceed_taking p s (Policy v text) session h = absurd (cc)

proceed_other : (p : PolicyOf) (s : State) (e : Event) → taking_in e ≡ None
    → proceed p s e ≡ done p (drafted p (heard s e) e)
proceed_other p s (Take x) h = absurd (cc)
proceed_other p s (Up who arp) h = refl
proceed_other p s (Msg x frame) h = refl
proceed_other p s (Gone x) h = refl
proceed_other p s (Tick second) h = refl
proceed_other p s (Policy v text) h = refl

-- the step of a taking that finds something, and that of another event that changes something
pub step_taking : (p : PolicyOf) (s : State) (e : Event) (session : Session) → glance_of p s e ≡ None
    → taking_in e ≡ Some session → step_of p s e ≡ (takes s session, left_after session s)
step_taking p s e session g h = ap (λ o. step_by o p s e) g ∙ proceed_taking p s e session h

pub step_other : (p : PolicyOf) (s : State) (e : Event) → glance_of p s e ≡ None → taking_in e ≡ None
    → step_of p s e ≡ done p (drafted p (heard s e) e)
step_other p s e g h = ap (λ o. step_by o p s e) g ∙ proceed_other p s e h

-- an event that is answered at once changes nothing
pub step_glanced : (p : PolicyOf) (s : State) (e : Event) (reply : Reply) → glance_of p s e ≡ Some reply
    → step_of p s e ≡ (reply, s)
step_glanced p s e reply g = ap (λ o. step_by o p s e) g

-- what was heard of an event is taken back
pub taken_back : (h0 h1 h2 : Held) (counts : HeldOf) (n : ℕ) (cs : List CookieCount)
    → record h1 { counts = h0.counts } ≡ h0 → with_counts n cs (told h1.counts) ≡ told h0.counts
    → state_in_held h2 ≡ state_in_held h1 → told counts ≡ with_counts n cs (told h2.counts)
    → state_in_held (record h2 { counts = counts }) ≡ state_in_held h0
taken_back h0 h1 h2 counts n cs rest back same taken =
    let counted : told counts ≡ told h0.counts = taken ∙ (ap (λ (s : State). with_counts n cs s.counts) same ∙ back) in
    ap (λ (c : CountsOf). record (state_in_held h2) { counts = c }) counted
    ∙ (ap (λ (s : State). record s { counts = told h0.counts }) same ∙ ap state_in_held rest)

-- where counts alone were changed there are as many members and switches
pub has_all_counted : (p : PolicyOf) (h new : Held) → HasAll p h → record new { counts = h.counts } ≡ h → HasAll p new
has_all_counted p h new all rest = record {
  members = ap (λ (x : Held). length x.members) rest ∙ all.members;
  switches = ap (λ (x : Held). length x.switches) rest ∙ all.switches;
}

-- and after a taking
pub has_all_taken : (p : PolicyOf) (h new : Held) → HasAll p h → length new.members ≡ length h.members
    → length new.switches ≡ length h.switches → HasAll p new
has_all_taken p h new all members switches =
    record { members = members ∙ all.members; switches = switches ∙ all.switches }

-- what stands on switches is what the setting gives, where counts alone were changed
pub settled_counted : (p : PolicyOf) (h new : Held) → IsSettledState p (state_in_held h)
    → record new { counts = h.counts } ≡ h → IsSettledState p (state_in_held new)
settled_counted p h new settled rest =
    subst (λ (x : Held). IsSettledState p (state_in_held x)) (sym rest) settled

-- after a taking
pub settled_taken : (p : PolicyOf) (h new : Held) (session : Session) → IsSettledState p (state_in_held h)
    → state_in_held new ≡ left_by session.who session.round (state_in_held h) → IsSettledState p (state_in_held new)
settled_taken p h new session settled left =
    subst (IsSettledState p) (sym left) (left_settled p session.who session.round (state_in_held h) settled)

-- and after an event that is drafted
pub settled_done : (p : PolicyOf) (s : State) (e : Event) (reply : Reply) (new : State)
    → (reply, new) ≡ done p (drafted p s e) → IsSettledState p new
settled_done p s e reply new is =
    subst (IsSettledState p) (sym (ap (λ (x : Reply × State). x.1) is)) (drafted_settled p s e)

-- what is kept stays in a taking that finds something
pub kept_left : SoundnessIsKept → (p : PolicyOf) → IsSound p → (h new : Held) → h.next_cookie < 2 ^ 64 → (e : Event)
    (session : Session) (k : Option ComposedOf) → IsEvent e → glance_of p (state_in_held h) e ≡ None
    → taking_in e ≡ Some session → state_in_held new ≡ left_by session.who session.round (state_in_held h)
    → IsKept p (state_in_held h) k → IsKept p (state_in_held new) k
kept_left kept p policy h new fits e session k given none is left i =
    let s = state_in_held h in
    let after : (step_of p s e).1 ≡ left_after session s =
    ap (λ (x : Reply × State). x.1) (step_taking p s e session none is) in
    let sound : IsSoundWhile p (left_after session s) =
    subst (IsSoundWhile p) after (sound_stepped kept p policy s fits e given i.sound) in
    subst (λ (z : State). IsKept p z k) (sym left) (kept_taken p s session k sound i)

-- a copy has what is true of what is held
pub held_copied : (p q : PolicyOf) (h new : Held) (k : Option ComposedOf) → q ≡ p → holding_of new ≡ holding_of h
    → HasAll p h × (IsSettledState p (state_in_held h) × IsKept p (state_in_held h) k)
    → HasAll q new × (IsSettledState q (state_in_held new) × IsKept q (state_in_held new) None)
held_copied p q h new k same is i =
    let state = ap state_held is in
    subst
    (λ (z : PolicyOf). HasAll z new × (IsSettledState z (state_in_held new) × IsKept z (state_in_held new) None))
    (sym same) (
      has_all_kept p h new i.0 state,
      (
        subst (IsSettledState p) (sym state) i.1.0,
        kept_none p (state_in_held new) (subst (IsSoundWhile p) (sym state) i.1.1.sound),
      ),
    )
