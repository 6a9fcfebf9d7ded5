use Rattle.waitings.specs.Waitings.{without_parts_of}
use Rattle.waitings.proofs.Mapped.{mapped_more}
use Rattle.waitings.proofs.changing.drop_all_parts_of.Goals as goal

pub loop-waiting-preserved : goal.loop-waiting-preserved
loop-waiting-preserved c =
    mapped_more (without_parts_of c.args.switch) c.args.list.now c.loop-waiting.list
    c.loop-waiting.waiting-index _ _ c.loop-waiting-test.true c.loop-waiting.auto.list
    c.loop-waiting.invariant c.drop_parts_of.ensures
