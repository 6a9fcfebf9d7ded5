use Rattle.switch_meaning.specs.Fixed.{guard, is_guarded}
use Rattle.switch_meaning.proofs.Writing.{made_at}
use Rattle.switch_meaning.proofs.fixed.guards.Goals as goal

pub loop-o-preserved : goal.loop-o-preserved
loop-o-preserved c =
    made_at guard (is_guarded c.args.switch) c.as_slice-o-items.result.now c.loop-o.o-index _ c.loop-o.entries
    c.add_guard.new.entries _ c.loop-o-test.true c.in_ok-add_guard.ensures c.loop-o.invariant
