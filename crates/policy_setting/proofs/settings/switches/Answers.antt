use Rattle.std.proofs.Common.{◌∙◌, ◌++◌, [], ◌∷◌, sym, ap, map, arith}
use Rattle.policy_expr.specs.Policy.{policy_of}
use Rattle.virtual_topology.proofs.Steps.{numbered_all, numbered_mapped}
use Rattle.policy_setting.specs.Networks.{virtual_switch}
use Rattle.policy_setting.specs.Settings.{numbered_switch}
use Rattle.policy_setting.proofs.settings.switches.Goals as goal

pub loop-v-preserved : goal.loop-v-preserved
loop-v-preserved c =
    let f = numbered_switch c.args.topology.now (map policy_of c.args.exprs.now) c.args.seen.now in
    let x = c.index-virtuals-v.result in
    c.in_ok-push.ensures.pushed
    ∙ ((λ i. c.loop-v.invariant i ++ (c.in_ok-switch.ensures
    ∙ (λ j. virtual_switch c.args.topology.now (c.in_ok-expr.ensures j) (c.holds_at-all.ensures j) (c.loop-v.v, x)))
    i ∷ [])
    ∙ sym (numbered_mapped f c.args.virtuals.now c.loop-v.v x c.loop-v-test.true c.index-virtuals-v.is))

pub returns : goal.returns
returns c = c.loop-v.invariant
    ∙ ap (map (numbered_switch c.args.topology.now (map policy_of c.args.exprs.now) c.args.seen.now))
    (numbered_all c.args.virtuals.now c.loop-v.v (omega (arith, c.loop-v-test.false)))
