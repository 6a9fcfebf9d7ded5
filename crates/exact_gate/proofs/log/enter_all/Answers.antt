use Rattle.std.proofs.Common.{◌∙◌}
use Rattle.exact_gate.proofs.Logged.{come-more}
use Rattle.exact_gate.proofs.log.enter_all.Goals as goal

pub loop-entry-preserved : goal.loop-entry-preserved
loop-entry-preserved c = record {
  come = come-more c.args.pool.now c.loop-entry.pool c.enter.new.pool c.args.come.now c.loop-entry.entry-index
      c.entry-item.result c.loop-entry-test.true c.entry-item.is c.loop-entry.invariant.come c.in_ok-enter.ensures.come;
  same = λ e. c.loop-entry.invariant.same e ∙ c.in_ok-enter.ensures.same e;
}
