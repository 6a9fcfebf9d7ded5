use Rattle.std.proofs.Common.{◌∙◌}
use Rattle.exact_gate.proofs.States.{earlier-made, present-made}
use Rattle.exact_gate.proofs.state.keep_last.Goals as goal

pub returns-clause-candidates : goal.returns-clause-candidates
returns-clause-candidates c = present-made c.args.state.now c.replace.new.dest c.replace.result
    (c.replace.ensures.after ∙ c.new.ensures) c.replace.ensures.value c.requires

pub returns-clause-before : goal.returns-clause-before
returns-clause-before c = earlier-made c.args.state.now c.replace.new.dest c.replace.result
    (c.replace.ensures.after ∙ c.new.ensures) c.replace.ensures.value
