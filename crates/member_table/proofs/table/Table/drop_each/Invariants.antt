use Rattle.std.proofs.Common.{◌≡◌, length}
use Rattle.member_table.proofs.Changing.{emptied}
use Rattle.member_table.proofs.table.Table.drop_each.Given as goal

abbrev pub invariant-loop-serial : goal.invariant-loop-serial
invariant-loop-serial l = record {
  table : emptied l.serials l.place l.self.table ≡ emptied l.fn.serials l.fn.place l.fn.self.table;
  room : l.self.room ≡ l.fn.self.room;
}

abbrev pub decreases-loop-serial : goal.decreases-loop-serial
decreases-loop-serial l = length l.serials
