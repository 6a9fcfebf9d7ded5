use Rattle.std.proofs.Common.{List, ◌==◌, ◌∙◌, ◌∷◌, [], sym, ap, subst, length, length-append, nat_eq, arith}
use Rattle.std.proofs.lemmas.List.Sums.{count_by-le-length}
use Rattle.indexmap.specs.IndexMap.{get}
use Rattle.match_index.specs.declared.item.Item.{Item}
use Rattle.member_table.specs.InsideRanking.{AreCounted}
use Rattle.member_table.proofs.Ranking.{counted_more}
use Rattle.member_table.proofs.ranks.Ranks.insert.Goals as goal

pub add-requires-clause-bound : goal.add-requires-clause-bound
add-requires-clause-bound c =
    let items = c.self.inside.index.items in
    let counted = c.self.invariant c.args.item.now.rank in
    let most = count_by-le-length (λ (r : Item). c.args.item.now.rank == r.rank) items in
    let more = ap length c.put.ensures.items ∙ length-append items (c.args.item.now ∷ []) in
    let all = c.len.ensures.count in
    omega (arith, counted, most, more, all)

pub invariant_of-self : goal.invariant_of-self
invariant_of-self c =
    let P : List Item → Type 0 = λ xs. AreCounted (get nat_eq c.add.new.counts) xs in
    subst P (sym c.put.ensures.items)
    (counted_more (get nat_eq c.self.inside.counts) (get nat_eq c.add.new.counts) c.self.inside.index.items
    c.args.item.now c.self.invariant c.add.ensures.counted)
