use Rattle.std.proofs.Common.{ℕ, List, filter, subst}
use Rattle.match_index.specs.InsideGroups.{SameItems}
use Rattle.member_table.specs.InsideRanking.{remains}
use Rattle.member_table.proofs.Kept.{kept_filter}
use Rattle.member_table.proofs.table.Table.drop_all.Goals as goal

pub invariant_of-self : goal.invariant_of-self
invariant_of-self c =
    let S : List ℕ
    → Type 0 = λ serials. SameItems (filter (remains serials c.args.place) c.self.inside.ranks.items)
    c.remove_all.new.self.items in
    kept_filter (remains c.args.serials c.args.place) c.self.inside.next c.self.inside.limit c.self.inside.room
    c.self.inside.soonest c.self.inside.order _ c.self.inside.ranks _ c.self.invariant
    c.remove_all-2.ensures.entries c.remove_all-2.ensures.room (subst S c.as_slice.ensures c.remove_all.ensures.items)
    c.remove_all.ensures.room
