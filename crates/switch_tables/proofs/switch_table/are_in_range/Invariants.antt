use Rattle.std.proofs.Common.{take}
use Rattle.agreement.specs.FreeOrder.{HaveMatches}
use Rattle.switch_tables.proofs.switch_table.are_in_range.Given as goal

abbrev pub invariant-loop-entry : goal.invariant-loop-entry
invariant-loop-entry l = HaveMatches (take l.entry-index l.entry-items)
