use Rattle.std.proofs.Common.{◌≤◌, take, filter}
use Rattle.match_index.specs.InsideGroups.{SameItems}
use Rattle.member_table.specs.InsideRanking.{remains}
use Rattle.member_table.proofs.ranks.Ranks.remove_all.Given as goal

abbrev pub invariant-loop-serial : goal.invariant-loop-serial
invariant-loop-serial l = record {
  items : SameItems (filter (remains (take l.serial-index l.serials) l.place) l.fn.self.items) l.self.items;
  room : l.fn.self.room ≤ l.self.room;
}
