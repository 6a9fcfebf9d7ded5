use Rattle.std.proofs.Common.{◌∙◌, ap, ◌++◌, sym, arith}
use Rattle.std.specs.Prelude.{flat_map}
use Rattle.hop_rules.specs.Links.{port_ends}
use Rattle.virtual_topology.proofs.Steps.{numbered_all, numbered_more}
use Rattle.hop_rules.proofs.exits.ends_among.Goals as goal

pub loop-v-preserved : goal.loop-v-preserved
loop-v-preserved c =
    c.in_ok-append.ensures.appended
    ∙ ((λ i. c.loop-v.invariant i ++ c.in_ok-port_ends.ensures i)
    ∙ sym (numbered_more (port_ends c.args.topology.now) c.args.virtuals.now c.loop-v.v c.index-virtuals-v.result
    c.loop-v-test.true c.index-virtuals-v.is))

pub returns : goal.returns
returns c = c.loop-v.invariant ∙ ap (flat_map (port_ends c.args.topology.now))
    (numbered_all c.args.virtuals.now c.loop-v.v (omega (arith, c.loop-v-test.false)))
