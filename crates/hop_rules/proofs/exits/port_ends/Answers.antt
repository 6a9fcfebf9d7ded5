use Rattle.virtual_topology.proofs.Steps.{pushed_some}
use Rattle.hop_rules.specs.Links.{end}
use Rattle.hop_rules.proofs.exits.port_ends.Goals as goal

pub loop-port-preserved : goal.loop-port-preserved
loop-port-preserved c =
    pushed_some (end c.args.topology.now c.args.v) c.as_slice-port-items.result.now c.loop-port.port-index
    c.port-item.result c.loop-port.ends c.push_some.new.self c.end.result
    c.loop-port-test.true c.port-item.is c.loop-port.invariant c.end.ensures c.in_ok-push_some.ensures.pushed
