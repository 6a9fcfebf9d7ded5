use Rattle.std.proofs.Common.{◌≡◌, take}
use Rattle.shared_list.specs.InsideRuns.{joined}
use Rattle.shared_list.proofs.list.SharedList.listed.Given as goal

-- the items of the runs so far
abbrev pub invariant-loop-run : goal.invariant-loop-run
invariant-loop-run g l = l.items ≡ joined (take l.run-index l.run-items)
