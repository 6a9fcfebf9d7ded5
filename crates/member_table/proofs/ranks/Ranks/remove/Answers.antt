use Rattle.std.proofs.Common.{◌∙◌, sym, ap, subst, filter, find, not, nat_eq, option_map, count_by}
use Rattle.indexmap.specs.IndexMap.{get}
use Rattle.match_index.specs.InsideGroups.{SameItems}
use Rattle.match_index.specs.Items.{has_id}
use Rattle.match_index.specs.declared.item.Item.{Item}
use Rattle.member_table.specs.InsideRanking.{RanksOf}
use Rattle.member_table.proofs.Counts.{left_by_id}
use Rattle.member_table.proofs.Lists.{filter-none, none_mapped}
use Rattle.member_table.proofs.Ranking.{counted_less, once_id}
use Rattle.member_table.proofs.ranks.Ranks.remove.Goals as goal

pub invariant_of-self : goal.invariant_of-self
invariant_of-self c =
    let items = c.self.inside.index.items in
    let q = has_id c.args.serial in
    let found = c.in-Some.ensures ∙ ap (λ (o : RanksOf). option_map (λ (e : Item). e.rank) (find q o.items))
    (sym c.self.view_is) in
    counted_less q c.in-Some.rank (get nat_eq c.self.inside.counts) (get nat_eq c.forget.new.counts) items
    c.remove.new.self.items c.self.invariant c.forget.ensures.counted found c.remove.ensures.items

pub returns-in-Some-clause-items : goal.returns-in-Some-clause-items
returns-in-Some-clause-items c =
    let items = c.self.inside.index.items in
    let q = has_id c.args.serial in
    let S : RanksOf → Type 0 = λ o. SameItems (filter (λ r. not (q r)) o.items) c.remove.new.self.items in
    subst S c.self.view_is (left_by_id q items c.remove.new.self.items (once_id c.args.serial items c.len.ensures.once)
    c.remove.ensures.items)

pub returns-in_default-clause-items : goal.returns-in_default-clause-items
returns-in_default-clause-items c =
    let q = has_id c.args.serial in
    λ p. ap (count_by p)
    (filter-none q c.args.self.now.items
    (none_mapped (λ (e : Item). e.rank) q c.args.self.now.items c.in_default.ensures))
