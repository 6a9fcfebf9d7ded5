use Rattle.waitings.specs.Waitings.{with_xid}
use Rattle.waitings.proofs.Mapped.{mapped_more}
use Rattle.waitings.proofs.changing.give_all_xid.Goals as goal

pub loop-waiting-preserved : goal.loop-waiting-preserved
loop-waiting-preserved c =
    mapped_more (with_xid c.args.v c.args.switch c.args.xid) c.args.list.now c.loop-waiting.list
    c.loop-waiting.waiting-index _ _ c.loop-waiting-test.true c.loop-waiting.auto.list
    c.loop-waiting.invariant c.give_xid.ensures
