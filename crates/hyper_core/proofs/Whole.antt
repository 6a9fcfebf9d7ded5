-- The frames of events that aren't answered at once are whole.
use Rattle.std.proofs.Common.{◌≡◌, ℕ, Bool, true, false, List, None, refl, sym, ap, true≢false, eqb-true, leb-true}
use Rattle.std.specs.Prelude.{◌&&◌, is_some}
use Rattle.of10_frames.specs.Frames.{IsFrame}
use Rattle.policies.specs.Policies.{PolicyOf}
use Rattle.machine_meaning.specs.Glances.{closed_unless, glance_of, is_frame, is_present}
use Rattle.event_acts.specs.Overtaking.{IsWhole}
use Rattle.machine_meaning.specs.States.{State}
use Rattle.events.specs.declared.event.Event.{Event}
use Rattle.events.specs.declared.event.Event.TheVariants.{Up, Msg, Gone, Tick, Take, Policy}

first_true : (a b : Bool) → (a && b) ≡ true → a ≡ true
first_true true b h = refl
first_true false b h = h

second_true : (a b : Bool) → (a && b) ≡ true → b ≡ true
second_true true b h = h
second_true false b h = absurd (true≢false (sym h))

not_closed : (test : Bool) → closed_unless test ≡ None → test ≡ true
not_closed true h = refl
not_closed false h = absurd (true≢false (ap is_some h))

whole_frame : (frame : List ℕ) → is_frame frame ≡ true → IsFrame frame
whole_frame frame h = record {
  header = leb-true _ _ (first_true _ _ h);
  whole = eqb-true _ _ (second_true _ _ h);
}

-- a frame of an event that isn't answered at once is whole
pub whole_event : (p : PolicyOf) (s : State) (e : Event) → glance_of p s e ≡ None → IsWhole e
whole_event p s (Up who arp) h = tt
whole_event p s (Msg session frame) h =
    whole_frame frame (first_true (is_frame frame) (is_present s session) (not_closed _ h))
whole_event p s (Gone session) h = tt
whole_event p s (Tick second) h = tt
whole_event p s (Take session) h = tt
whole_event p s (Policy v text) h = tt
