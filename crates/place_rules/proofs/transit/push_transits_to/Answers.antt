use Rattle.switch_meaning.specs.Fixed.{passes, transit}
use Rattle.switch_meaning.specs.declared.wiring.SwitchPort.{SwitchPort}
use Rattle.switch_meaning.proofs.Writing.{made_at}
use Rattle.place_rules.proofs.transit.push_transits_to.Goals as goal

pub loop-end-preserved : goal.loop-end-preserved
loop-end-preserved c =
    made_at (λ (s : SwitchPort). transit c.args.wiring.now s c.args.goal.now c.in-Some.tag)
    (λ (s : SwitchPort). passes c.args.wiring.now s c.args.goal.now) c.as_slice-end-items.result.now
    c.loop-end.end-index _ c.loop-end.entries
    c.push_transit.new.entries _ c.loop-end-test.true c.in_ok-push_transit.ensures c.loop-end.invariant
