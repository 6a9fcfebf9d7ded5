use Rattle.virtual_topology.proofs.Steps.{pushed_some}
use Rattle.policy_setting.specs.Networks.{link}
use Rattle.policy_setting.proofs.network.links.Goals as goal

pub loop-port-preserved : goal.loop-port-preserved
loop-port-preserved c =
    pushed_some (link c.args.topology.now c.args.v) c.args.ports.now c.loop-port.port-index c.port-item.result
    c.loop-port.links c.push_some.new.self c.link.result
    c.loop-port-test.true c.port-item.is c.loop-port.invariant c.link.ensures c.in_ok-push_some.ensures.pushed
