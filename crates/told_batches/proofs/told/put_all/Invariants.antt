use Rattle.std.proofs.Common.{◌≡◌, ◌++◌, take}
use Rattle.shared_rows.specs.Rows.{Rise, by_key}
use Rattle.told_batches.proofs.told.put_all.Given as goal

abbrev pub invariant-loop-row : goal.invariant-loop-row
invariant-loop-row l = Rise l.fn.rows → l.all ≡ by_key (l.fn.rows ++ take l.row-index l.come)
