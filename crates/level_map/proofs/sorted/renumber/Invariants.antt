use Rattle.std.proofs.Common.{◌≡◌, ◌++◌, length, take, drop}
use Rattle.level_map.specs.InsidePlaces.{numbered}
use Rattle.level_map.proofs.sorted.renumber.Given as goal

abbrev pub invariant-loop-i : goal.invariant-loop-i
invariant-loop-i l = l.ranked ≡ numbered l.size (length l.fn.ranked) 1 (take l.i l.fn.ranked) ++ drop l.i l.fn.ranked
