use Rattle.std.proofs.Common.{◌≤◌, ℕ, length}
use Rattle.made_rules.proofs.Parted.{DifferFrom}
use Rattle.made_rules.proofs.parting.place_of.Given as goal

abbrev pub invariant-loop-end : goal.invariant-loop-end
invariant-loop-end l = record {
  within : l.end ≤ length l.gone;
  differ : DifferFrom l.gone l.end l.rule;
}

abbrev pub decreases-loop-end : goal.decreases-loop-end
decreases-loop-end l = l.end
