use Rattle.std.proofs.Common.{◌++◌, ◌∙◌, ap}
use Rattle.virtual_topology.specs.declared.plan.TopologyPlan.{TopologyPlan}
use Rattle.place_rules.specs.Joined.{hops_from}
use Rattle.place_rules.proofs.Looked.{rows_more}
use Rattle.place_rules.proofs.joining.next_hops.Goals as goal

pub loop-from-preserved : goal.loop-from-preserved
loop-from-preserved c =
    rows_more (hops_from c.args.topology.now) c.loop-from.list c.push_hops.new.list c.loop-from.from
    c.loop-from.invariant
    (c.in_ok-push_hops.ensures ∙ ap (λ (plan : TopologyPlan). c.loop-from.list ++ hops_from plan c.loop-from.from)
    c.requires)
