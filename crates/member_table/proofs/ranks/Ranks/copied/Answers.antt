use Rattle.std.proofs.Common.{◌==◌, ◌∙◌, ap, count_by, nat_eq, sym}
use Rattle.std.specs.Map.{lookup}
use Rattle.match_index.specs.Items.{IndexOf}
use Rattle.match_index.specs.declared.item.Item.{Item}
use Rattle.member_table.specs.InsideRanking.{count_at}
use Rattle.member_table.proofs.Ranking.{cloned}
use Rattle.member_table.proofs.ranks.Ranks.copied.Goals as goal

pub invariant_of-result : goal.invariant_of-result
invariant_of-result c = λ rank.
    let same = cloned c.self.inside.counts.entries c.in_ok-clone.field-0.entries c.in_ok-clone.ensures.cases in
    ap (λ ps. count_at (λ q. lookup (nat_eq q) ps) rank) same
    ∙ (c.self.invariant rank ∙ ap (λ (o : IndexOf). count_by (λ (r : Item). rank == r.rank) o.items)
    (sym c.in_ok-copy.ensures))
