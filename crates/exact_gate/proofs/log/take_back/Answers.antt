use Rattle.std.proofs.Common.{◌∙◌}
use Rattle.exact_gate.proofs.Logged.{gone-again}
use Rattle.exact_gate.proofs.log.take_back.Goals as goal

pub loop-entry-preserved : goal.loop-entry-preserved
loop-entry-preserved c e =
    c.loop-entry.invariant e
    ∙ gone-again c.loop-entry.pool c.remove.new.self c.loop-entry.log.gone c.pop.new.self c.in-Some.entry
    c.loop-entry.log.come c.in-Some.ensures.items c.remove.ensures e
