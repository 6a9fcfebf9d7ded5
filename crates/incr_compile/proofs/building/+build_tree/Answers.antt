use denote.Param.Send.{sendable}
use Rattle.std.proofs.Common.{rules, ◌≡◌, ◌<◌, ◌^◌, ap, arith, subst, sym, ◌∙◌}
use Rattle.alg_priority.specs.Levels.{capped}
use Rattle.op_compose.specs.declared.op.Op.TheVariants.{Par, Seq, Over}
use Rattle.policy_expr.specs.Policy.{override, parallel, policy_of, sequential}
use Rattle.policy_meaning.specs.Fitting.{levels_of}
use Rattle.policy_meaning.proofs.LevelsBelow.{operators, parallel-parts, sequential-parts}
use Rattle.incr_compile.specs.Trees.{tree_of}
use Rattle.incr_compile.proofs.Built.{built-as, built-can, built-ok}
use Rattle.incr_compile.proofs.Spent.{built-spent, first-stopped, second-stopped}
use Rattle.incr_compile.proofs.building.+build_tree.Goals as goal

pub build_tree-requires : goal.build_tree-requires
build_tree-requires g t c κs within =
    let whole : policy_of c.args.expr.now ≡ parallel (policy_of c.in-Par.left.value) (policy_of c.in-Par.right.value) =
    ap policy_of c.in-Par.is in
    let fit : levels_of c.args.tables.now (parallel (policy_of c.in-Par.left.value) (policy_of c.in-Par.right.value)) <
    2 ^ 64 = subst (λ z. levels_of c.args.tables.now z < 2 ^ 64) whole c.requires.size in
    let smaller : operators (policy_of c.deref.result.now) < operators (policy_of c.args.expr.now) =
    subst (λ z. operators (policy_of c.deref.result.now) < operators z) (sym whole)
    (subst (λ z. operators (policy_of z) < operators
    (parallel (policy_of c.in-Par.left.value) (policy_of c.in-Par.right.value))) (sym c.deref.ensures)
    (omega arith)) in (
      search rules,
      (
        within.0,
        (
          within.1,
          (
            search sendable,
            (
              c.requires.tables,
              (
                c.requires.sound,
                subst (λ z. levels_of c.args.tables.now (policy_of z) < 2 ^ 64) (sym c.deref.ensures)
                    (parallel-parts c.args.tables.now c.requires.tables (policy_of c.in-Par.left.value)
                    (policy_of c.in-Par.right.value) fit).0,
              ),
            ),
          ),
        ),
      ),
    )

pub build_tree-second-requires : goal.build_tree-second-requires
build_tree-second-requires g t c κs within =
    let whole : policy_of c.args.expr.now ≡ parallel (policy_of c.in-Par.left.value) (policy_of c.in-Par.right.value) =
    ap policy_of c.in-Par.is in
    let fit : levels_of c.args.tables.now (parallel (policy_of c.in-Par.left.value) (policy_of c.in-Par.right.value)) <
    2 ^ 64 = subst (λ z. levels_of c.args.tables.now z < 2 ^ 64) whole c.requires.size in
    let smaller : operators (policy_of c.deref-in-Par.result.now) < operators (policy_of c.args.expr.now) =
    subst (λ z. operators (policy_of c.deref-in-Par.result.now) < operators z) (sym whole)
    (subst (λ z. operators (policy_of z) < operators
    (parallel (policy_of c.in-Par.left.value) (policy_of c.in-Par.right.value))) (sym c.deref-in-Par.ensures)
    (omega arith)) in (
      search rules,
      (
        within.0,
        (
          within.1,
          (
            search sendable,
            (
              c.requires.tables,
              (
                c.requires.sound,
                subst (λ z. levels_of c.args.tables.now (policy_of z) < 2 ^ 64) (sym c.deref-in-Par.ensures)
                    (parallel-parts c.args.tables.now c.requires.tables (policy_of c.in-Par.left.value)
                    (policy_of c.in-Par.right.value) fit).1,
              ),
            ),
          ),
        ),
      ),
    )

pub operator_tree-requires : goal.operator_tree-requires
operator_tree-requires g t c =
    let whole : policy_of c.args.expr.now ≡ parallel (policy_of c.in-Par.left.value) (policy_of c.in-Par.right.value) =
    ap policy_of c.in-Par.is in
    let fit : levels_of c.args.tables.now (parallel (policy_of c.in-Par.left.value) (policy_of c.in-Par.right.value)) <
    2 ^ 64 = subst (λ z. levels_of c.args.tables.now z < 2 ^ 64) whole c.requires.size in
    let right : levels_of c.args.tables.now (policy_of c.in-Par.right.value) < 2 ^ 64 =
    (parallel-parts c.args.tables.now c.requires.tables (policy_of c.in-Par.left.value)
    (policy_of c.in-Par.right.value) fit).1 in
    let whole' =
    subst (λ z. levels_of c.args.tables.now (parallel (policy_of c.in-Par.left.value) (policy_of z)) < 2 ^ 64)
    (sym c.deref-in-Par.ensures) fit in (
      search sendable,
      built-can c.args.tables.now c.args.ports.now Par (policy_of c.deref.result.now)
          (policy_of c.deref-in-Par.result.now) (tree_of c.in_ok-both-in-Par.both.0)
          (tree_of c.in_ok-both-in-Par.both.1) c.expression_size-size.result (λ e. absurd (cc))
          (built-as c.args.tables.now c.args.ports.now (policy_of c.deref.result.now) c.in_ok-first-in-Par.first
          c.in_ok-both-in-Par.both.0 c.in_ok-both-in-Par.ensures.first c.in_ok-first-in-Par.ensures.built)
          (built-ok c.args.tables.now c.args.ports.now (policy_of c.deref-in-Par.result.now)
          c.build_tree-second.result c.in_ok-both-in-Par.both.1 c.in_ok-both-in-Par.ensures.second
          c.build_tree-second.ensures.built)
          (subst (λ z. levels_of c.args.tables.now (parallel (policy_of z) (policy_of c.deref-in-Par.result.now)) < 2 ^
          64) (sym c.deref.ensures) whole')
          (subst (λ z. levels_of c.args.tables.now (policy_of z) < 2 ^ 64) (sym c.deref-in-Par.ensures) right)
          (c.expression_size-size.ensures
          ∙ ap (λ z. capped (levels_of c.args.tables.now (policy_of z)))
          (c.deref-in-Par-2.ensures ∙ sym c.deref-in-Par.ensures)),
    )

pub build_tree-requires-in-Seq : goal.build_tree-requires-in-Seq
build_tree-requires-in-Seq g t c κs within =
    let whole : policy_of c.args.expr.now ≡ sequential (policy_of c.in-Seq.left.value)
    (policy_of c.in-Seq.right.value) = ap policy_of c.in-Seq.is in
    let fit : levels_of c.args.tables.now (sequential (policy_of c.in-Seq.left.value) (policy_of c.in-Seq.right.value))
    < 2 ^ 64 = subst (λ z. levels_of c.args.tables.now z < 2 ^ 64) whole c.requires.size in
    let smaller : operators (policy_of c.deref-in-Seq.result.now) < operators (policy_of c.args.expr.now) =
    subst (λ z. operators (policy_of c.deref-in-Seq.result.now) < operators z) (sym whole)
    (subst (λ z. operators (policy_of z) < operators
    (sequential (policy_of c.in-Seq.left.value) (policy_of c.in-Seq.right.value))) (sym c.deref-in-Seq.ensures)
    (omega arith)) in (
      search rules,
      (
        within.0,
        (
          within.1,
          (
            search sendable,
            (
              c.requires.tables,
              (
                c.requires.sound,
                subst (λ z. levels_of c.args.tables.now (policy_of z) < 2 ^ 64) (sym c.deref-in-Seq.ensures)
                    (sequential-parts c.args.tables.now c.requires.tables (policy_of c.in-Seq.left.value)
                    (policy_of c.in-Seq.right.value) fit).0,
              ),
            ),
          ),
        ),
      ),
    )

pub build_tree-second-requires-in-Seq : goal.build_tree-second-requires-in-Seq
build_tree-second-requires-in-Seq g t c κs within =
    let whole : policy_of c.args.expr.now ≡ sequential (policy_of c.in-Seq.left.value)
    (policy_of c.in-Seq.right.value) = ap policy_of c.in-Seq.is in
    let fit : levels_of c.args.tables.now (sequential (policy_of c.in-Seq.left.value) (policy_of c.in-Seq.right.value))
    < 2 ^ 64 = subst (λ z. levels_of c.args.tables.now z < 2 ^ 64) whole c.requires.size in
    let smaller : operators (policy_of c.deref-in-Seq-2.result.now) < operators (policy_of c.args.expr.now) =
    subst (λ z. operators (policy_of c.deref-in-Seq-2.result.now) < operators z) (sym whole)
    (subst (λ z. operators (policy_of z) < operators
    (sequential (policy_of c.in-Seq.left.value) (policy_of c.in-Seq.right.value))) (sym c.deref-in-Seq-2.ensures)
    (omega arith)) in (
      search rules,
      (
        within.0,
        (
          within.1,
          (
            search sendable,
            (
              c.requires.tables,
              (
                c.requires.sound,
                subst (λ z. levels_of c.args.tables.now (policy_of z) < 2 ^ 64)
                    (sym c.deref-in-Seq-2.ensures)
                    (sequential-parts c.args.tables.now c.requires.tables (policy_of c.in-Seq.left.value)
                    (policy_of c.in-Seq.right.value) fit).1,
              ),
            ),
          ),
        ),
      ),
    )

pub operator_tree-requires-in-Seq : goal.operator_tree-requires-in-Seq
operator_tree-requires-in-Seq g t c =
    let whole : policy_of c.args.expr.now ≡ sequential (policy_of c.in-Seq.left.value)
    (policy_of c.in-Seq.right.value) = ap policy_of c.in-Seq.is in
    let fit : levels_of c.args.tables.now (sequential (policy_of c.in-Seq.left.value) (policy_of c.in-Seq.right.value))
    < 2 ^ 64 = subst (λ z. levels_of c.args.tables.now z < 2 ^ 64) whole c.requires.size in
    let right : levels_of c.args.tables.now (policy_of c.in-Seq.right.value) < 2 ^ 64 =
    (sequential-parts c.args.tables.now c.requires.tables (policy_of c.in-Seq.left.value)
    (policy_of c.in-Seq.right.value) fit).1 in
    let whole' =
    subst (λ z. levels_of c.args.tables.now (sequential (policy_of c.in-Seq.left.value) (policy_of z)) < 2 ^ 64)
    (sym c.deref-in-Seq-2.ensures) fit in (
      search sendable,
      built-can c.args.tables.now c.args.ports.now Seq (policy_of c.deref-in-Seq.result.now)
          (policy_of c.deref-in-Seq-2.result.now) (tree_of c.in_ok-both-in-Seq.both.0)
          (tree_of c.in_ok-both-in-Seq.both.1) c.expression_size-size-in-Seq.result (λ e. absurd (cc))
          (built-as c.args.tables.now c.args.ports.now (policy_of c.deref-in-Seq.result.now) c.in_ok-first-in-Seq.first
          c.in_ok-both-in-Seq.both.0 c.in_ok-both-in-Seq.ensures.first c.in_ok-first-in-Seq.ensures.built)
          (built-ok c.args.tables.now c.args.ports.now (policy_of c.deref-in-Seq-2.result.now)
          c.build_tree-second-in-Seq.result c.in_ok-both-in-Seq.both.1 c.in_ok-both-in-Seq.ensures.second
          c.build_tree-second-in-Seq.ensures.built)
          (subst (λ z. levels_of c.args.tables.now (sequential (policy_of z) (policy_of c.deref-in-Seq-2.result.now)) <
          2 ^ 64) (sym c.deref-in-Seq.ensures) whole')
          (subst (λ z. levels_of c.args.tables.now (policy_of z) < 2 ^ 64) (sym c.deref-in-Seq-2.ensures) right)
          (c.expression_size-size-in-Seq.ensures
          ∙ ap (λ z. capped (levels_of c.args.tables.now (policy_of z)))
          (c.deref-in-Seq-3.ensures ∙ sym c.deref-in-Seq-2.ensures)),
    )

pub operator_tree-requires-in-Over : goal.operator_tree-requires-in-Over
operator_tree-requires-in-Over g t c =
    let whole : policy_of c.args.expr.now ≡ override (policy_of c.in-Over.left.value)
    (policy_of c.in-Over.right.value) = ap policy_of c.in-Over.is in
    let fit : levels_of c.args.tables.now (override (policy_of c.in-Over.left.value) (policy_of c.in-Over.right.value))
    < 2 ^ 64 = subst (λ z. levels_of c.args.tables.now z < 2 ^ 64) whole c.requires.size in
    let right : levels_of c.args.tables.now (policy_of c.in-Over.right.value) < 2 ^ 64 = (omega arith) in
    let whole' =
    subst (λ z. levels_of c.args.tables.now (override (policy_of c.in-Over.left.value) (policy_of z)) < 2 ^ 64)
    (sym c.deref-in-Over-2.ensures) fit in (
      search sendable,
      built-can c.args.tables.now c.args.ports.now Over (policy_of c.deref-in-Over.result.now)
          (policy_of c.deref-in-Over-2.result.now) (tree_of c.in_ok-both-in-Over.both.0)
          (tree_of c.in_ok-both-in-Over.both.1) c.expression_size-size-in-Over.result (λ e. absurd (cc))
          (built-as c.args.tables.now c.args.ports.now (policy_of c.deref-in-Over.result.now)
          c.in_ok-first-in-Over.first c.in_ok-both-in-Over.both.0 c.in_ok-both-in-Over.ensures.first
          c.in_ok-first-in-Over.ensures.built)
          (built-ok c.args.tables.now c.args.ports.now (policy_of c.deref-in-Over-2.result.now)
          c.build_tree-second-in-Over.result c.in_ok-both-in-Over.both.1 c.in_ok-both-in-Over.ensures.second
          c.build_tree-second-in-Over.ensures.built)
          (subst (λ z. levels_of c.args.tables.now (override (policy_of z) (policy_of c.deref-in-Over-2.result.now)) < 2
          ^ 64) (sym c.deref-in-Over.ensures) whole')
          (subst (λ z. levels_of c.args.tables.now (policy_of z) < 2 ^ 64) (sym c.deref-in-Over-2.ensures) right)
          (c.expression_size-size-in-Over.ensures
          ∙ ap (λ z. capped (levels_of c.args.tables.now (policy_of z)))
          (c.deref-in-Over-3.ensures ∙ sym c.deref-in-Over-2.ensures)),
    )

pub returns-in_err-first-in-Par-clause-steps : goal.returns-in_err-first-in-Par-clause-steps
returns-in_err-first-in-Par-clause-steps g t c =
    first-stopped c.args.tables.now c.args.ports.now Par (policy_of c.deref.result.now) (policy_of c.in-Par.right.value)
    (λ e. absurd (cc)) (policy_of c.args.expr.now)
    (ap policy_of c.in-Par.is ∙ ap (λ z. parallel (policy_of z) (policy_of c.in-Par.right.value)) (sym c.deref.ensures))
    c.args.steps.now c.build_tree.new.steps c.build_tree.ensures.steps

pub returns-in_err-both-in-Par-clause-steps : goal.returns-in_err-both-in-Par-clause-steps
returns-in_err-both-in-Par-clause-steps g t c =
    second-stopped c.args.tables.now c.args.ports.now Par (policy_of c.deref.result.now)
    (policy_of c.deref-in-Par.result.now) (λ e. absurd (cc)) (policy_of c.args.expr.now)
    (ap policy_of c.in-Par.is ∙ ap (λ z. parallel (policy_of z) (policy_of c.in-Par.right.value)) (sym c.deref.ensures)
    ∙ ap (λ z. parallel (policy_of c.deref.result.now) (policy_of z)) (sym c.deref-in-Par.ensures))
    c.args.steps.now c.build_tree.new.steps c.build_tree-second.new.steps c.build_tree.ensures.steps
    c.build_tree-second.ensures.steps

pub returns-in_ok-both-in-Par-clause-steps : goal.returns-in_ok-both-in-Par-clause-steps
returns-in_ok-both-in-Par-clause-steps g t c =
    built-spent c.args.tables.now c.args.ports.now Par (policy_of c.deref.result.now)
    (policy_of c.deref-in-Par.result.now) (λ e. absurd (cc)) (policy_of c.args.expr.now)
    (ap policy_of c.in-Par.is ∙ ap (λ z. parallel (policy_of z) (policy_of c.in-Par.right.value)) (sym c.deref.ensures)
    ∙ ap (λ z. parallel (policy_of c.deref.result.now) (policy_of z)) (sym c.deref-in-Par.ensures))
    (tree_of c.in_ok-both-in-Par.both.0) (tree_of c.in_ok-both-in-Par.both.1)
    (built-as c.args.tables.now c.args.ports.now (policy_of c.deref.result.now) c.in_ok-first-in-Par.first
    c.in_ok-both-in-Par.both.0 c.in_ok-both-in-Par.ensures.first c.in_ok-first-in-Par.ensures.built)
    (built-ok c.args.tables.now c.args.ports.now (policy_of c.deref-in-Par.result.now) c.build_tree-second.result
    c.in_ok-both-in-Par.both.1 c.in_ok-both-in-Par.ensures.second c.build_tree-second.ensures.built)
    c.args.steps.now c.build_tree.new.steps c.build_tree-second.new.steps c.operator_tree.new.steps
    c.build_tree.ensures.steps c.build_tree-second.ensures.steps c.operator_tree.ensures.steps

pub returns-in_err-first-in-Seq-clause-steps : goal.returns-in_err-first-in-Seq-clause-steps
returns-in_err-first-in-Seq-clause-steps g t c =
    first-stopped c.args.tables.now c.args.ports.now Seq (policy_of c.deref-in-Seq.result.now)
    (policy_of c.in-Seq.right.value) (λ e. absurd (cc)) (policy_of c.args.expr.now)
    (ap policy_of c.in-Seq.is ∙ ap (λ z. sequential (policy_of z) (policy_of c.in-Seq.right.value))
    (sym c.deref-in-Seq.ensures))
    c.args.steps.now c.build_tree-in-Seq.new.steps c.build_tree-in-Seq.ensures.steps

pub returns-in_err-both-in-Seq-clause-steps : goal.returns-in_err-both-in-Seq-clause-steps
returns-in_err-both-in-Seq-clause-steps g t c =
    second-stopped c.args.tables.now c.args.ports.now Seq (policy_of c.deref-in-Seq.result.now)
    (policy_of c.deref-in-Seq-2.result.now) (λ e. absurd (cc)) (policy_of c.args.expr.now)
    (ap policy_of c.in-Seq.is ∙ ap (λ z. sequential (policy_of z) (policy_of c.in-Seq.right.value))
    (sym c.deref-in-Seq.ensures)
    ∙ ap (λ z. sequential (policy_of c.deref-in-Seq.result.now) (policy_of z)) (sym c.deref-in-Seq-2.ensures))
    c.args.steps.now c.build_tree-in-Seq.new.steps c.build_tree-second-in-Seq.new.steps
    c.build_tree-in-Seq.ensures.steps c.build_tree-second-in-Seq.ensures.steps

pub returns-in_ok-both-in-Seq-clause-steps : goal.returns-in_ok-both-in-Seq-clause-steps
returns-in_ok-both-in-Seq-clause-steps g t c =
    built-spent c.args.tables.now c.args.ports.now Seq (policy_of c.deref-in-Seq.result.now)
    (policy_of c.deref-in-Seq-2.result.now) (λ e. absurd (cc)) (policy_of c.args.expr.now)
    (ap policy_of c.in-Seq.is ∙ ap (λ z. sequential (policy_of z) (policy_of c.in-Seq.right.value))
    (sym c.deref-in-Seq.ensures)
    ∙ ap (λ z. sequential (policy_of c.deref-in-Seq.result.now) (policy_of z)) (sym c.deref-in-Seq-2.ensures))
    (tree_of c.in_ok-both-in-Seq.both.0) (tree_of c.in_ok-both-in-Seq.both.1)
    (built-as c.args.tables.now c.args.ports.now (policy_of c.deref-in-Seq.result.now) c.in_ok-first-in-Seq.first
    c.in_ok-both-in-Seq.both.0 c.in_ok-both-in-Seq.ensures.first c.in_ok-first-in-Seq.ensures.built)
    (built-ok c.args.tables.now c.args.ports.now (policy_of c.deref-in-Seq-2.result.now)
    c.build_tree-second-in-Seq.result c.in_ok-both-in-Seq.both.1 c.in_ok-both-in-Seq.ensures.second
    c.build_tree-second-in-Seq.ensures.built)
    c.args.steps.now c.build_tree-in-Seq.new.steps c.build_tree-second-in-Seq.new.steps c.operator_tree-in-Seq.new.steps
    c.build_tree-in-Seq.ensures.steps c.build_tree-second-in-Seq.ensures.steps c.operator_tree-in-Seq.ensures.steps

pub returns-in_err-first-in-Over-clause-steps : goal.returns-in_err-first-in-Over-clause-steps
returns-in_err-first-in-Over-clause-steps g t c =
    first-stopped c.args.tables.now c.args.ports.now Over (policy_of c.deref-in-Over.result.now)
    (policy_of c.in-Over.right.value) (λ e. absurd (cc)) (policy_of c.args.expr.now)
    (ap policy_of c.in-Over.is ∙ ap (λ z. override (policy_of z) (policy_of c.in-Over.right.value))
    (sym c.deref-in-Over.ensures))
    c.args.steps.now c.build_tree-in-Over.new.steps c.build_tree-in-Over.ensures.steps

pub returns-in_err-both-in-Over-clause-steps : goal.returns-in_err-both-in-Over-clause-steps
returns-in_err-both-in-Over-clause-steps g t c =
    second-stopped c.args.tables.now c.args.ports.now Over (policy_of c.deref-in-Over.result.now)
    (policy_of c.deref-in-Over-2.result.now) (λ e. absurd (cc)) (policy_of c.args.expr.now)
    (ap policy_of c.in-Over.is ∙ ap (λ z. override (policy_of z) (policy_of c.in-Over.right.value))
    (sym c.deref-in-Over.ensures)
    ∙ ap (λ z. override (policy_of c.deref-in-Over.result.now) (policy_of z)) (sym c.deref-in-Over-2.ensures))
    c.args.steps.now c.build_tree-in-Over.new.steps c.build_tree-second-in-Over.new.steps
    c.build_tree-in-Over.ensures.steps c.build_tree-second-in-Over.ensures.steps

pub returns-in_ok-both-in-Over-clause-steps : goal.returns-in_ok-both-in-Over-clause-steps
returns-in_ok-both-in-Over-clause-steps g t c =
    built-spent c.args.tables.now c.args.ports.now Over (policy_of c.deref-in-Over.result.now)
    (policy_of c.deref-in-Over-2.result.now) (λ e. absurd (cc)) (policy_of c.args.expr.now)
    (ap policy_of c.in-Over.is ∙ ap (λ z. override (policy_of z) (policy_of c.in-Over.right.value))
    (sym c.deref-in-Over.ensures)
    ∙ ap (λ z. override (policy_of c.deref-in-Over.result.now) (policy_of z)) (sym c.deref-in-Over-2.ensures))
    (tree_of c.in_ok-both-in-Over.both.0) (tree_of c.in_ok-both-in-Over.both.1)
    (built-as c.args.tables.now c.args.ports.now (policy_of c.deref-in-Over.result.now) c.in_ok-first-in-Over.first
    c.in_ok-both-in-Over.both.0 c.in_ok-both-in-Over.ensures.first c.in_ok-first-in-Over.ensures.built)
    (built-ok c.args.tables.now c.args.ports.now (policy_of c.deref-in-Over-2.result.now)
    c.build_tree-second-in-Over.result c.in_ok-both-in-Over.both.1 c.in_ok-both-in-Over.ensures.second
    c.build_tree-second-in-Over.ensures.built)
    c.args.steps.now c.build_tree-in-Over.new.steps c.build_tree-second-in-Over.new.steps
    c.operator_tree-in-Over.new.steps c.build_tree-in-Over.ensures.steps c.build_tree-second-in-Over.ensures.steps
    c.operator_tree-in-Over.ensures.steps
