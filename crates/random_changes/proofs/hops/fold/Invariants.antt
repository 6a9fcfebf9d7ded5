use Rattle.random_changes.specs.Holding.{AreHeld}
use Rattle.random_changes.proofs.hops.fold.Given as goal

abbrev pub invariant-loop-turn : goal.invariant-loop-turn
invariant-loop-turn g l = AreHeld l.table l.first l.second
