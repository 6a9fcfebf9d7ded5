use Rattle.std.proofs.Common.{◌≡◌, length}
use Rattle.std.specs.List.{AllByRecursion}
use Rattle.member_table.specs.Changes.{IsInRange}
use Rattle.member_table.proofs.Changing.{altered}
use Rattle.member_table.proofs.table.Table.modify_all.Given as goal

abbrev pub invariant-loop-one : goal.invariant-loop-one
invariant-loop-one l = record {
  modified : AllByRecursion IsInRange l.modified;
  table : altered l.modified l.self.table ≡ altered l.fn.modified l.fn.self.table;
  room : l.self.room ≡ l.fn.self.room;
}

abbrev pub decreases-loop-one : goal.decreases-loop-one
decreases-loop-one l = length l.modified
