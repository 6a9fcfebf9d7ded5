use Rattle.std.proofs.Common.{sym, ◌∙◌}
use Rattle.std.proofs.lemmas.Result.{on_ok_weaker}
use Rattle.waitings.specs.Waitings.{unless_more, waits_for_flows}
use Rattle.waitings.proofs.Firsts.{first_changed, first_past}
use Rattle.waitings.proofs.changing.take_flows.Goals as goal

pub returns-then-waits_for_flows-clause-taken : goal.returns-then-waits_for_flows-clause-taken
returns-then-waits_for_flows-clause-taken c =
    let passes = sym c.if-waits_for_flows.true ∙ c.waits_for_flows.ensures in
    on_ok_weaker c.end_unless.result
    (λ taken. first_changed (waits_for_flows c.args.switch c.args.xid)
    (unless_more c.args.more c.args.switch c.args.xid) c.args.list.now
    c.loop-waiting.list c.loop-waiting.waiting-index _ _ _ c.loop-waiting-test.true c.loop-waiting.invariant.same
    c.loop-waiting.invariant.none passes taken)
    c.end_unless.ensures.ended

pub returns-clause-taken : goal.returns-clause-taken
returns-clause-taken c =
    first_past (waits_for_flows c.args.switch c.args.xid) (unless_more c.args.more c.args.switch c.args.xid)
    c.args.list.now c.loop-waiting.list c.loop-waiting.waiting-index c.loop-waiting-test.false
    c.loop-waiting.invariant.same c.loop-waiting.invariant.none
