use Rattle.std.proofs.Common.{◌≡◌}
use Rattle.shared_rows.specs.Rows.{by_key}
use Rattle.shared_rows.proofs.rows.Rows.of.Given as goal

abbrev pub invariant-loop-row : goal.invariant-loop-row
invariant-loop-row l = l.all ≡ by_key l.yielded
