use Rattle.std.proofs.Common.{List, length, nat_eq, ◌≤◌}
use Rattle.indexmap.specs.IndexMap.{get, spare}
use Rattle.member_table.specs.Entries.{same_identity}
use Rattle.member_table.specs.InsideOrders.{IsIndexed}
use Rattle.member_table.specs.declared.entry.Entry.{Entry}
use Rattle.member_table.proofs.Staying.{IsOnTheWay}
use Rattle.member_table.proofs.order.take_all.Given as goal

abbrev pub invariant-loop-serial : goal.invariant-loop-serial
invariant-loop-serial l = record {
  way : (es : List Entry) → IsIndexed (get nat_eq l.fn.entries) (get same_identity l.fn.numbers) es
      → IsOnTheWay (get nat_eq l.entries) (get same_identity l.numbers) l.serials l.fn.serials l.place es;
  entries_room : spare l.fn.entries ≤ spare l.entries;
  numbers_room : spare l.fn.numbers ≤ spare l.numbers;
}

abbrev pub decreases-loop-serial : goal.decreases-loop-serial
decreases-loop-serial l = length l.serials
