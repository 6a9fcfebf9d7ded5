use Rattle.std.proofs.Common.{◌∙◌, ◌++◌, ◌∷◌, [], ap, sym, map, arith}
use Rattle.virtual_topology.proofs.Steps.{numbered_all, numbered_mapped}
use Rattle.machine_drafts.specs.Setups.{ports_at}
use Rattle.machine_drafts.proofs.setup.ports.Goals as goal

pub loop-v-preserved : goal.loop-v-preserved
loop-v-preserved c =
    let x = c.index-virtuals-v.result in
    c.in_ok-push.ensures.pushed
    ∙ ((λ i. c.loop-v.invariant i ++ c.in_ok-all.ensures i ∷ [])
    ∙ sym (numbered_mapped ports_at c.args.virtuals.now c.loop-v.v x c.loop-v-test.true c.index-virtuals-v.is))

pub returns : goal.returns
returns c = c.loop-v.invariant ∙ ap (map ports_at) (numbered_all c.args.virtuals.now c.loop-v.v
    (omega (arith, c.loop-v-test.false)))
