use Rattle.std.proofs.Common.{◌≡◌, take}
use Rattle.shared_rows.specs.InsideRuns.{joined}
use Rattle.shared_rows.proofs.rows.Rows.listed.Given as goal

abbrev pub invariant-loop-run : goal.invariant-loop-run
invariant-loop-run l = l.rows ≡ joined (take l.run-index l.run-items)
