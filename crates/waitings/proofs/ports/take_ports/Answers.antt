use Rattle.std.proofs.Common.{sym, ◌∙◌}
use Rattle.std.proofs.lemmas.Result.{on_ok_weaker}
use Rattle.waitings.specs.Ports.{taking_ports}
use Rattle.waitings.specs.Waitings.{waits_for_ports}
use Rattle.waitings.proofs.Firsts.{first_changed, first_past}
use Rattle.waitings.proofs.ports.take_ports.Goals as goal

pub returns-then-waits_for_ports-clause-taken : goal.returns-then-waits_for_ports-clause-taken
returns-then-waits_for_ports-clause-taken c =
    let passes = sym c.if-waits_for_ports.true ∙ c.waits_for_ports.ensures in
    on_ok_weaker c.take_ports.result
    (λ taken. first_changed (waits_for_ports c.args.switch c.args.xid)
    (taking_ports c.args.topology.now c.args.switch c.args.xid c.args.more c.args.stats.now) c.args.list.now
    c.loop-waiting.list c.loop-waiting.waiting-index _ _ _ c.loop-waiting-test.true c.loop-waiting.invariant.same
    c.loop-waiting.invariant.none passes taken)
    c.take_ports.ensures.taken

pub returns-clause-taken : goal.returns-clause-taken
returns-clause-taken c =
    first_past (waits_for_ports c.args.switch c.args.xid)
    (taking_ports c.args.topology.now c.args.switch c.args.xid c.args.more c.args.stats.now) c.args.list.now
    c.loop-waiting.list c.loop-waiting.waiting-index c.loop-waiting-test.false c.loop-waiting.invariant.same
    c.loop-waiting.invariant.none
