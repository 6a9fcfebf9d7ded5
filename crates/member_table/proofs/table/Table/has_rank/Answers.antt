use Rattle.std.proofs.Common.{◌∙◌, ◌==◌, ap, map}
use Rattle.std.specs.List.{list_any}
use Rattle.member_table.specs.InsideRanking.{ranked_of}
use Rattle.member_table.specs.Tables.{has_rank}
use Rattle.match_index.specs.declared.item.Item.{Item}
use Rattle.match_index.proofs.Counts.{same_any}
use Rattle.member_table.proofs.Lists.{list_any-map}
use Rattle.member_table.proofs.table.Table.has_rank.Goals as goal

pub returns : goal.returns
returns c =
    let es = c.self.inside.order.entries in
    let it = λ (r : Item). c.args.rank == r.rank in
    c.has.ensures ∙ (same_any c.self.inside.ranks.items (map ranked_of es) c.self.invariant.ranked it
    ∙ (list_any-map it ranked_of es ∙ ap (λ h. list_any (has_rank c.args.rank) h.table.entries) c.self.view_is))
