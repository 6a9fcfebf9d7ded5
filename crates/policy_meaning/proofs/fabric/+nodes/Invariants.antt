use Rattle.std.proofs.Common.{◌≡◌, ◌+◌, ◌-◌, ◌*◌, take}
use Rattle.std.specs.Prelude.{flat_map}
use Rattle.policy_meaning.specs.Hops.{at_node, hops_on, leads, node}
use Rattle.policy_meaning.specs.Networks.{fabric_of}
use Rattle.policy_meaning.specs.declared.rule.Rule.{Rule}
use Rattle.policy_meaning.proofs.fabric.+nodes.Given as goal

abbrev pub decreases-add_onward : goal.decreases-add_onward
decreases-add_onward l = 2 * l.hops + 1

abbrev pub decreases-node_rules : goal.decreases-node_rules
decreases-node_rules l = 2 * l.hops

abbrev pub invariant-node_rules-loop-rule : goal.invariant-node_rules-loop-rule
invariant-node_rules-loop-rule l =
    l.rules
    ≡ flat_map (λ (a : Rule). hops_on (leads a.tail l.switch-inside.links l.port)
    (node (fabric_of l.network) (l.hops - 1)) l.size (at_node l.v l.port a)) (take l.rule-index l.rule-items)
