use Rattle.std.proofs.Common.{◌+◌, length}
use Rattle.list_change.specs.Netting.{IsParted}
use Rattle.list_change.proofs.netting.net.Given as goal

abbrev pub invariant-loop-come : goal.invariant-loop-come
invariant-loop-come g l = IsParted g.T.Ord.cmp l.fn.gone.items l.fn.come.items l.gone.items l.come.items
    l.net.gone.items l.net.come.items l.net.both.items

abbrev pub decreases-loop-come : goal.decreases-loop-come
decreases-loop-come g l = length l.gone.items + length l.come.items
