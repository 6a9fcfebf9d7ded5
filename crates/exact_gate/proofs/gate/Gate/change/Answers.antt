use Rattle.std.proofs.Common.{◌∙◌, ap, sym}
use Rattle.match_index.proofs.Lists.{err_then, ok_then}
use Rattle.exact_gate.specs.Gates.{GateOf}
use Rattle.exact_gate.specs.Standing.{stands_in}
use Rattle.exact_gate.proofs.gate.Gate.change.Goals as goal

pub returns-clause-before : goal.returns-clause-before
returns-clause-before c = ok_then _ _ c.change.result
    (λ h e. ap (λ (g : GateOf). stands_in g.candidates e) (sym c.self.view_is) ∙ h e) c.change.ensures.before

pub returns-clause-memory : goal.returns-clause-memory
returns-clause-memory c = err_then _ _ c.change.result
    (λ h e. ap (λ (g : GateOf). stands_in g.candidates e) (sym c.self.view_is) ∙ h e) c.change.ensures.memory

pub returns-clause-memory_before : goal.returns-clause-memory_before
returns-clause-memory_before c = err_then _ _ c.change.result
    (λ h e. ap (λ (g : GateOf). stands_in g.before e) (sym c.self.view_is) ∙ h e) c.change.ensures.memory_before
