use Rattle.std.proofs.Common.{◌-◌, ◌∙◌, ap, nat_eq, unwrap_or, arith}
use Rattle.indexmap.specs.IndexMap.{get}
use Rattle.member_table.proofs.Ranking.{counted_out, counted_set}
use Rattle.member_table.proofs.rank_counts.forget.Goals as goal

pub returns-then-before-gt1-clause-counted : goal.returns-then-before-gt1-clause-counted
returns-then-before-gt1-clause-counted c = λ q.
    ap (λ o. unwrap_or o 0) (c.write.ensures.counts q)
    ∙ counted_set (get nat_eq c.args.counts.now) c.args.rank _ _ q (ap (λ n. n - 1) c.count-before.ensures)

pub returns-else-before-gt1-clause-counted : goal.returns-else-before-gt1-clause-counted
returns-else-before-gt1-clause-counted c = λ q.
    let few = c.count-before.ensures in
    ap (λ o. unwrap_or o 0) (c.swap_remove.ensures.updates.0 q)
    ∙ counted_out (get nat_eq c.args.counts.now) c.args.rank _ q (omega (arith, few))
