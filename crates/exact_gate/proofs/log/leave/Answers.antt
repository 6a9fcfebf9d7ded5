use Rattle.std.proofs.Common.{◌∙◌, ◌++◌, ◌∷◌, [], sym, ap}
use Rattle.switch_meaning.specs.declared.entry.PhysEntry.{PhysEntry}
use Rattle.exact_gate.proofs.Logged.{has-gone}
use Rattle.exact_gate.proofs.Standing.{absent-already}
use Rattle.exact_gate.proofs.log.leave.Goals as goal

pub returns-then-not-has-clause-gone : goal.returns-then-not-has-clause-gone
returns-then-not-has-clause-gone c e = absent-already c.args.pool.now c.args.entry.now e (sym c.if-not-has.ensures)

pub returns-clause-same : goal.returns-clause-same
returns-clause-same c =
    has-gone c.args.pool.now c.remove.new.self c.args.log.now.gone c.args.log.now.come c.args.entry.now c.push.new.self
    (c.in_ok-push.ensures.pushed ∙ ap (λ (x : PhysEntry). c.args.log.now.gone ++ x ∷ []) c.in_ok-copy.ensures)
    (sym c.if-not-has.ensures) c.requires c.remove.ensures
