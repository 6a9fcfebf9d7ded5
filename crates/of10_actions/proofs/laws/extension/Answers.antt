use Rattle.of10_actions.proofs.Extending.{extends-itself, extends-onward, extends-composed, extends-after}
use Rattle.of10_actions.proofs.Extending.{and_then-absorbs}
use Rattle.of10_actions.proofs.laws.extension.Goals as goal

pub returns-clause-itself : goal.returns-clause-itself
returns-clause-itself c = extends-itself

pub returns-clause-onward : goal.returns-clause-onward
returns-clause-onward c = extends-onward

pub returns-clause-composed : goal.returns-clause-composed
returns-clause-composed c = extends-composed

pub returns-clause-after : goal.returns-clause-after
returns-clause-after c = extends-after

pub returns-clause-absorbs : goal.returns-clause-absorbs
returns-clause-absorbs c = and_then-absorbs
