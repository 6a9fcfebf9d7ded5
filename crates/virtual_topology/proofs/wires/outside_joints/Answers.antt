use Rattle.std.proofs.Common.{◌∙◌, ap, ◌++◌, sym, arith}
use Rattle.std.specs.Prelude.{flat_map}
use Rattle.virtual_topology.specs.Wires.{item_joints}
use Rattle.virtual_topology.proofs.Steps.{numbered_all, numbered_more}
use Rattle.virtual_topology.proofs.wires.outside_joints.Goals as goal

pub loop-number-preserved : goal.loop-number-preserved
loop-number-preserved c =
    c.in_ok-extend_from_slice.ensures.items
    ∙ ((λ i. c.loop-number.invariant i ++ (c.deref.ensures.value ∙ c.in_ok-item_joints.ensures) i)
    ∙ sym (numbered_more (item_joints c.args.known.now) c.args.virtuals.now c.loop-number.number
    c.index-virtuals-number.result c.loop-number-test.true c.index-virtuals-number.is))

pub returns : goal.returns
returns c = c.loop-number.invariant
    ∙ ap (flat_map (item_joints c.args.known.now))
    (numbered_all c.args.virtuals.now c.loop-number.number (omega (arith, c.loop-number-test.false)))
