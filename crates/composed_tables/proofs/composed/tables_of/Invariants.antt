use Rattle.std.proofs.Common.{◌≡◌, length}
use Rattle.agreement.specs.Entries.{entries_of}
use Rattle.switch_tables.specs.Turning.{HaveNow}
use Rattle.composed_tables.proofs.composed.tables_of.Given as goal

abbrev pub invariant-loop-n : goal.invariant-loop-n
invariant-loop-n l = record {
  count : length l.tables ≡ l.n;
  now : HaveNow (entries_of l.setting) l.tables;
}
