use Rattle.waitings.specs.InsideSpans.{span_with_xid}
use Rattle.waitings.proofs.Mapped.{mapped_more}
use Rattle.waitings.proofs.parts.give_all_xid.Goals as goal

pub loop-span-preserved : goal.loop-span-preserved
loop-span-preserved c =
    mapped_more (span_with_xid c.args.switch c.args.xid) c.args.spans.now c.loop-span.spans
    c.loop-span.span-index _ _ c.loop-span-test.true c.loop-span.auto.spans
    c.loop-span.invariant c.give_xid.ensures
