use Rattle.std.proofs.Common.{◌+◌, length}
use Rattle.made_rules.specs.Parting.{IsParted}
use Rattle.made_rules.proofs.parting.part.Given as goal

abbrev pub invariant-loop-come : goal.invariant-loop-come
invariant-loop-come l = IsParted l.fn.gone.items l.fn.come.items l.gone.items l.come.items l.parted.gone.items
    l.parted.come.items l.parted.both.items

abbrev pub decreases-loop-come : goal.decreases-loop-come
decreases-loop-come l = length l.gone.items + length l.come.items
