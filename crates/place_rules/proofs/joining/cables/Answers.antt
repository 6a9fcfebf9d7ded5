use Rattle.virtual_topology.specs.Wires.{cable_joints}
use Rattle.place_rules.proofs.Looked.{cables_all, cables_more}
use Rattle.place_rules.proofs.joining.cables.Goals as goal

pub loop-place-preserved : goal.loop-place-preserved
loop-place-preserved c =
    cables_more (cable_joints c.args.topology.now) c.cable_ways-ways.result.now c.loop-place.list c.push.new.self
    c.cable_of.result c.loop-place.place _ c.cable_ways-ways.ensures.ways c.loop-place-test.true
    c.cable_of.ensures c.loop-place.invariant c.in_ok-push.ensures.pushed

pub returns : goal.returns
returns c = cables_all (cable_joints c.args.topology.now) c.cable_ways-ways.result.now c.loop-place.list
    c.loop-place.place c.cable_ways-ways.ensures.ways c.loop-place-test.false c.loop-place.invariant
