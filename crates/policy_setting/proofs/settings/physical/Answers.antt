use Rattle.std.proofs.Common.{◌∙◌, ◌++◌, [], ◌∷◌, sym, ap, map, arith}
use Rattle.virtual_topology.proofs.Steps.{numbered_all, numbered_mapped}
use Rattle.policy_setting.specs.Settings.{physical}
use Rattle.policy_setting.proofs.settings.physical.Goals as goal

pub loop-number-preserved : goal.loop-number-preserved
loop-number-preserved c =
    let x = c.index-items-number.result in
    c.in_ok-push.ensures.pushed
    ∙ ((λ i. c.loop-number.invariant i ++ record { ports = c.in_ok-ports.ensures i; up = c.holds_at-is_up.ensures i }
    ∷ [])
    ∙ sym (numbered_mapped (physical c.args.up.now) c.args.items.now c.loop-number.number x c.loop-number-test.true
    c.index-items-number.is))

pub returns : goal.returns
returns c = c.loop-number.invariant
    ∙ ap (map (physical c.args.up.now))
    (numbered_all c.args.items.now c.loop-number.number (omega (arith, c.loop-number-test.false)))
