use Rattle.exact_gate.proofs.States.{earlier-kept, present-kept}
use Rattle.exact_gate.proofs.state.settle_owed.Goals as goal

pub returns-clause-candidates : goal.returns-clause-candidates
returns-clause-candidates c = present-kept c.args.state.now c.revert.new.pool c.revert.new.log c.revert.ensures.same

pub returns-clause-before : goal.returns-clause-before
returns-clause-before c = earlier-kept c.args.state.now c.revert.new.pool c.revert.new.log c.revert.ensures.same
