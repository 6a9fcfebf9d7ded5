use Rattle.composed_tables.proofs.Building.{copied-empty}
use Rattle.composed_tables.proofs.rules.empty_hops.Goals as goal

pub returns-clause-empty : goal.returns-clause-empty
returns-clause-empty c =
    copied-empty c.args.topology.now c.in_ok-plan.plan c.args.sizes.now c.in_ok-own_sizes.own_sizes c.args.hops
    c.args.whole.now c.in_ok-own_whole.own_whole
    c.in_ok-plan.ensures c.in_ok-own_sizes.ensures c.in_ok-own_whole.ensures c.in_ok-table.table c.in_ok-table.ensures
