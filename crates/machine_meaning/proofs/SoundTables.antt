-- After any step members' tables, expressions, what is waited for and the next cookie are sound, as long as numbers are
-- left.
use Rattle.std.proofs.Common.{◌≡◌, ◌∙◌, ◌<◌, ◌^◌, true, List, [], ◌∷◌, length, map, Option, Some, None, IfSome, refl}
use Rattle.std.proofs.Common.{sym}
use Rattle.std.specs.List.{AllByRecursion}
use Rattle.cv_io.specs.declared.leaf.Who.TheVariants.{Switch}
use Rattle.events.specs.declared.event.Event.{Event}
use Rattle.events.specs.declared.event.Event.TheVariants as events
use Rattle.events.specs.declared.event.Reply.{Reply}
use Rattle.policies.specs.Policies.{PolicyOf}
use Rattle.policies.specs.Sound.{IsSound}
use Rattle.waitings.specs.Waitings.{asker_of}
use Rattle.waitings.specs.declared.state.Asker.{Asker}
use Rattle.waitings.specs.declared.state.Part.{Part}
use Rattle.waitings.specs.declared.state.Waiting.{Waiting}
use Rattle.machine_meaning.specs.Acting.{act}
use Rattle.machine_meaning.specs.Composing.{compose}
use Rattle.machine_meaning.specs.Events.{IsEvent}
use Rattle.machine_meaning.specs.Glances.{glance_of}
use Rattle.machine_meaning.specs.Hearing.{heard}
use Rattle.machine_meaning.specs.Phases.{draft_of, settled_of, slow}
use Rattle.machine_meaning.specs.Putting.{put}
use Rattle.machine_meaning.specs.Rounds.{Closing, close}
use Rattle.machine_meaning.specs.Sessions.{is_up}
use Rattle.machine_meaning.specs.Sound.{AreSoundTables, HasNumbers, IsSoundState, IsSoundWaiting, IsUpAsker}
use Rattle.machine_meaning.specs.States.{State}
use Rattle.machine_meaning.specs.Steps.{step_by, step_of}
use Rattle.machine_meaning.proofs.KeptNumbers.{HasNext, nexts_after, same_nexts}
use Rattle.machine_meaning.proofs.KeptWaiting.{DownUnknown, IsAwaited, IsPartOfUp}
use Rattle.machine_meaning.proofs.Quiet.{StillWaits}
use Rattle.machine_meaning.proofs.Readied.{long_map}
use Rattle.machine_meaning.proofs.SoundActs.{act_holds}
use Rattle.machine_meaning.proofs.SoundPhases.{IsSettled, closed_holds, composed_holds, put_holds, settled_holds}
use Rattle.machine_meaning.proofs.SoundPhases.{taken_holds, told_holds}
use Rattle.machine_meaning.proofs.SoundShapes.{IsShaped}
use Rattle.machine_meaning.proofs.Unchanged.{all_weaker}
use Rattle.machine_meaning.proofs.WhoIsUp.{IsUpAt, is_up_member, is_up_switch, member_up, switch_up}

-- what a sound state says of waitings -------------------------------------------------------------------------------

module _ (s : State) where
  abbrev IsAwaitedIn : Waiting → Type 0
  IsAwaitedIn w = IsAwaited (map switch_up s.switches) (map member_up s.members) w

  awaited : (w : Waiting) → IsSoundWaiting s w → IsAwaitedIn w
  awaited w h = record {
    parts =
        all_weaker (λ (part : Part). is_up s (Switch part.switch) ≡ true) (IsPartOfUp (map switch_up s.switches))
        (λ part k. sym (is_up_switch s part.switch) ∙ k) w.parts h.parts;
    asker = by (asker_of w.purpose) h.asker;
  }
    where
      by : (o : Option Asker) → IfSome o (IsUpAsker s)
          → IfSome o (λ (a : Asker). IsUpAt (map member_up s.members) a.member)
      by None h = tt
      by (Some a) h = sym (is_up_member s a.member) ∙ h

  sound_waiting : (w : Waiting) → IsAwaitedIn w → StillWaits w → IsSoundWaiting s w
  sound_waiting w h some = record {
    some = some;
    parts =
        all_weaker (IsPartOfUp (map switch_up s.switches)) (λ (part : Part). is_up s (Switch part.switch) ≡ true)
        (λ part k. is_up_switch s part.switch ∙ k) w.parts h.parts;
    asker = by (asker_of w.purpose) h.asker;
  }
    where
      by : (o : Option Asker) → IfSome o (λ (a : Asker). IsUpAt (map member_up s.members) a.member)
          → IfSome o (IsUpAsker s)
      by None h = tt
      by (Some a) h = is_up_member s a.member ∙ h

  all_waiting : (ws : List Waiting) → AllByRecursion IsAwaitedIn ws → AllByRecursion StillWaits ws
      → AllByRecursion (IsSoundWaiting s) ws
  all_waiting [] h k = tt
  all_waiting (w ∷ ws) h k = (sound_waiting w h.0 k.0, all_waiting ws h.1 k.1)

-- a sound state, as an event finds it
begins : (p : PolicyOf) (s : State) → IsSoundState p s → IsSettled p s
begins p s h = record {
  shape = record {
    exprs = h.exprs;
    all_members = h.all_members;
    members = h.members;
    all_switches = long_map switch_up s.switches ∙ h.all_switches;
    all_standing = h.all_standing;
    waiting = all_weaker (IsSoundWaiting s) (IsAwaitedIn s) (awaited s) s.waiting h.waiting;
    begun = h.written.0;
    fits = h.written.1;
  };
  some = all_weaker (IsSoundWaiting s) StillWaits (λ w k. k.some) s.waiting h.waiting;
}

down_unknown : (p : PolicyOf) (s : State) → IsSoundState p s → DownUnknown s
down_unknown p s h n x at e = ((h.switches n x at).down e).0

-- steps -------------------------------------------------------------------------------------------------------------

module _ (p : PolicyOf) (policy : IsSound p) (s : State) (sound : IsSoundState p s) where
  -- an event that goes through the phases
  through : (e : Event) → IsEvent e → glance_of p (heard s e) e ≡ None → (c : Closing)
      → HasNumbers (put p (draft_of p (heard s e) e c)) → IsSettled p (put p (draft_of p (heard s e) e c))
  through e given none c numbers =
      let start = heard s e in
      let acted = act p start e in
      let settled = settled_of p start e c in
      let left : AllByRecursion HasNext acted.state.members =
      same_nexts (put p (draft_of p start e c)).members acted.state.members (nexts_after p start e c) numbers.serials in
      let begun = begins p s sound in
      let shape : IsShaped p start = begun.shape in
      let done = act_holds p start shape (down_unknown p s sound) e given none left in
      put_holds p (draft_of p start e c)
      (told_holds p start (compose p settled)
      (composed_holds p settled (settled_holds p (close c acted) (closed_holds p c acted done))))

  stepped : (e : Event) → IsEvent e → HasNumbers (step_of p s e).1 → IsSettled p (step_of p s e).1
  stepped e given numbers = by (glance_of p s e) refl numbers
    where
      forth : (e : Event) → IsEvent e → glance_of p s e ≡ None → HasNumbers (step_by None p s e).1
          → IsSettled p (step_by None p s e).1
      forth (events.Up who arp) given none numbers =
          let e = events.Up who arp in through e given none (slow p (heard s e) e) numbers
      forth (events.Msg session frame) given none numbers =
          let e = events.Msg session frame in through e given none (slow p (heard s e) e) numbers
      forth (events.Gone session) given none numbers =
          let e = events.Gone session in through e given none (slow p (heard s e) e) numbers
      forth (events.Tick second) given none numbers =
          let e = events.Tick second in through e given none (slow p (heard s e) e) numbers
      forth (events.Take session) given none numbers =
          taken_holds p session.who session.round s (begins p s sound)
      forth (events.Policy v text) given none numbers =
          let e = events.Policy v text in through e given none (slow p (heard s e) e) numbers

      by : (o : Option Reply) → glance_of p s e ≡ o → HasNumbers (step_by o p s e).1 → IsSettled p (step_by o p s e).1
      by (Some reply) glanced numbers = begins p s sound
      by None glanced numbers = forth e given glanced numbers

-- what is promised --------------------------------------------------------------------------------------------------

module _ (p : PolicyOf) (policy : IsSound p) (s : State) (sound : IsSoundState p s) (e : Event) (given : IsEvent e)
    (numbers : HasNumbers (step_of p s e).1) where
  pub tables_kept : AreSoundTables p (step_of p s e).1
  tables_kept =
      let shape = (stepped p policy s sound e given numbers).shape in
      record { exprs = shape.exprs; all_members = shape.all_members; members = shape.members }

  pub sizes_kept : (length (step_of p s e).1.switches ≡ length p.switches)
      × (length (step_of p s e).1.standing ≡ length p.switches)
  sizes_kept =
      let shape = (stepped p policy s sound e given numbers).shape in
      (sym (long_map switch_up (step_of p s e).1.switches) ∙ shape.all_switches, shape.all_standing)

  pub waiting_kept : AllByRecursion (IsSoundWaiting (step_of p s e).1) (step_of p s e).1.waiting
  waiting_kept =
      let settled = stepped p policy s sound e given numbers in
      all_waiting (step_of p s e).1 (step_of p s e).1.waiting settled.shape.waiting settled.some

  pub written_kept : (0 < (step_of p s e).1.next_cookie) × ((step_of p s e).1.next_cookie < 2 ^ 64)
  written_kept = let shape = (stepped p policy s sound e given numbers).shape in (shape.begun, shape.fits)
