use Rattle.std.proofs.Common.{◌∙◌}
use Rattle.exact_gate.proofs.Logged.{gone-more}
use Rattle.exact_gate.proofs.log.leave_all.Goals as goal

pub loop-entry-preserved : goal.loop-entry-preserved
loop-entry-preserved c = record {
  gone = gone-more c.args.pool.now c.loop-entry.pool c.leave.new.pool c.args.gone.now c.loop-entry.entry-index
      c.entry-item.result c.loop-entry-test.true c.entry-item.is c.loop-entry.invariant.gone c.in_ok-leave.ensures.gone;
  same = λ e. c.loop-entry.invariant.same e ∙ c.in_ok-leave.ensures.same e;
  come = c.in_ok-leave.ensures.come;
}
