-- What a run did to counts.
use Rattle.std.proofs.Common.{◌≡◌, ◌∙◌, List, [], ◌∷◌, refl, sym, ap}
use Rattle.std.specs.Prelude.{fold}
use Rattle.policies.specs.Policies.{PolicyOf}
use Rattle.stats_map.specs.Counting.{CountsOf, count}
use Rattle.stats_map.specs.Histories.{CountsAreOfAll as CountsAreOfAllSteps, run}
use Rattle.machine_meaning.specs.Ever.{counted_along, counted_by, counted_of}
use Rattle.machine_meaning.specs.Laws.{CountsAreCounted, CountsAreOfAll}
use Rattle.machine_meaning.specs.Runs.{after}
use Rattle.machine_meaning.specs.States.{State, opening}
use Rattle.events.specs.declared.event.Event.{Event}
use Rattle.machine_meaning.proofs.CountSteps.{run_both}

-- events do to counts what each of them does, one after the other
counted_so : CountsAreCounted → (p : PolicyOf) (s : State) (events : List Event)
    → (fold (after p) s events).counts ≡ run (counted_along p s events) s.counts
counted_so law p s [] = refl
counted_so law p s (e ∷ events) =
    counted_so law p (after p s e) events
    ∙ (ap (run (counted_along p (after p s e) events)) (law p s e)
    ∙ sym (run_both (counted_by p s e) (counted_along p (after p s e) events) s.counts))

pub counts_of_all : CountsAreCounted → CountsAreOfAllSteps → CountsAreOfAll
counts_of_all law sums p events leaf kept =
    ap (λ (c : CountsOf). count c leaf) (counted_so law p (opening p) events) ∙ sums (counted_of p events) leaf kept
