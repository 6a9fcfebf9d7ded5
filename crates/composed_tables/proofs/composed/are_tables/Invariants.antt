use Rattle.std.proofs.Common.{take}
use Rattle.composed_tables.specs.Composing.{AreTables}
use Rattle.composed_tables.proofs.composed.are_tables.Given as goal

abbrev pub invariant-loop-table : goal.invariant-loop-table
invariant-loop-table l = AreTables (take l.table-index l.table-items)
