use Rattle.place_rules.proofs.Looked.{transits_more}
use Rattle.place_rules.proofs.transit.push_transits.Goals as goal

pub loop-goal-preserved : goal.loop-goal-preserved
loop-goal-preserved c =
    transits_more c.args.wiring.now c.args.switch c.in_ok-ends.ends c.as_slice-goal-items.result.now
    c.loop-goal.goal-index _ c.args.entries.now c.loop-goal.entries c.push_transits_to.new.entries
    c.loop-goal-test.true c.in_ok-ends.ensures c.loop-goal.invariant c.in_ok-push_transits_to.ensures
