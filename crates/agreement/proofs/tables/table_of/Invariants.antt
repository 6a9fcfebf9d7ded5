use Rattle.std.proofs.Common.{◌≡◌, map}
use Rattle.switch_meaning.specs.Keys.{flow_of}
use Rattle.agreement.proofs.tables.table_of.Given as goal

abbrev pub invariant-loop-entry : goal.invariant-loop-entry
invariant-loop-entry l = l.table ≡ map flow_of l.yielded
