use Rattle.std.proofs.Common.{◌+◌, ◌≤◌, ◌≡◌, ◌∙◌, subst, sym}
use Rattle.policy_expr.specs.Policy.{Policy, policy_of}
use Rattle.incr_compile.specs.Compiling.{IsOfTables, policy_in}
use Rattle.incr_compile.specs.Costs.{steps_from_scratch}
use Rattle.incr_compile.specs.Trees.{tree_of}
use Rattle.fitting_changes.specs.Composers.{policy_by}
use Rattle.fitting_changes.proofs.Composers.{built, named-once}
use Rattle.fitting_changes.proofs.composer.Composer.build.Goals as goal

pub build-requires-clause-sound : goal.build-requires-clause-sound
build-requires-clause-sound g c κs lives = c.requires

pub build-requires-clause-once : goal.build-requires-clause-once
build-requires-clause-once g c κs lives = named-once c.args.shape (policy_of c.in_ok-expr.expr) c.in_ok-expr.ensures

pub known-requires : goal.known-requires
known-requires g c =
    let e = c.in_ok-compiled.ensures in
    built c.args.shape c.args.size c.args.tables.now c.args.ports.now (policy_of c.in_ok-expr.expr)
    (tree_of c.in_ok-compiled.compiled)
    (c.suits.ensures c.if-not-suits.false) e.tables e.policy c.in_ok-expr.ensures

pub returns-clause-policy : goal.returns-clause-policy
returns-clause-policy g c =
    subst (λ z. policy_in (tree_of z) ≡ policy_by c.args.shape) (sym c.known.ensures)
    (c.in_ok-compiled.ensures.policy ∙ c.in_ok-expr.ensures)

pub returns-clause-tables : goal.returns-clause-tables
returns-clause-tables g c =
    subst (λ z. IsOfTables c.args.tables.now c.args.ports.now (tree_of z)) (sym c.known.ensures)
    c.in_ok-compiled.ensures.tables

pub returns-clause-steps : goal.returns-clause-steps
returns-clause-steps g c =
    subst (λ (p : Policy). c.build.new.steps ≤ c.args.steps.now + steps_from_scratch c.args.tables.now c.args.ports.now
    p) c.in_ok-expr.ensures c.build.ensures.steps
