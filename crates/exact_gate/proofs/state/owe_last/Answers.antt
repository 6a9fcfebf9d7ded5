use Rattle.std.proofs.Common.{◌∙◌}
use Rattle.exact_gate.proofs.States.{earlier-owed, present-owed}
use Rattle.exact_gate.proofs.state.owe_last.Goals as goal

pub returns-clause-candidates : goal.returns-clause-candidates
returns-clause-candidates c =
    present-owed c.args.state.now c.replace.result c.replace.new.dest c.requires.gone c.requires.come
    c.replace.ensures.value (c.replace.ensures.after ∙ c.new.ensures) c.requires.undone

pub returns-clause-before : goal.returns-clause-before
returns-clause-before c = earlier-owed c.args.state.now c.replace.result c.replace.new.dest c.requires.gone
    c.requires.come c.replace.ensures.value (c.replace.ensures.after ∙ c.new.ensures)
