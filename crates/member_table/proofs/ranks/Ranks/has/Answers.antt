use Rattle.std.proofs.Common.{◌∙◌, ◌==◌, ap, nat_lt, sym}
use Rattle.std.specs.List.{list_any}
use Rattle.match_index.specs.declared.item.Item.{Item}
use Rattle.match_index.proofs.Counts.{any_count}
use Rattle.member_table.proofs.ranks.Ranks.has.Goals as goal

pub returns : goal.returns
returns c =
    c.has.ensures ∙ (ap (nat_lt 0) (c.self.invariant c.args.rank)
    ∙ (sym (any_count (λ (r : Item). c.args.rank == r.rank) c.self.inside.index.items)
    ∙ ap (λ o. list_any (λ (r : Item). c.args.rank == r.rank) o.items) c.self.view_is))
