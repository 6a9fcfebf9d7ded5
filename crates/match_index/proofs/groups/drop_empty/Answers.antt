use Rattle.std.proofs.Common.{◌≡◌, ◌∙◌, ◌<◌, List, length, sym, ap, subst, rules}
use Rattle.match_index.specs.InsideGroups.{GroupOf, SameItems, in_groups}
use Rattle.match_index.proofs.Grouped.{group_dropped}
use Rattle.match_index.proofs.Lists.{got_same}
use Rattle.match_index.proofs.groups.drop_empty.Goals as goal

pub returns-then-is_empty : goal.returns-then-is_empty
returns-then-is_empty c =
    let gs = c.args.groups.now.items in
    let g = c.swap_remove.result in
    let within : c.args.place < length gs = search rules in
    let is : g ≡ c.index.result.now = c.swap_remove.ensures.value
    ∙ (got_same gs c.args.place g c.index.result.now within ∙ sym c.index.ensures) in
    let P : List GroupOf → Type 0 = λ hs. SameItems (in_groups hs) (in_groups gs) in
    subst P (sym c.swap_remove.ensures.items)
    (group_dropped gs c.args.place g within c.swap_remove.ensures.value
    (ap (λ (h : GroupOf). h.items) is ∙ c.is_empty.ensures c.if-is_empty.true))
