use Rattle.std.proofs.Common.{rules, ◌≡◌, ◌<◌, ◌^◌, arith, refl, subst, sym}
use Rattle.policy_expr.specs.Policy.{policy_of, parallel, sequential}
use Rattle.policy_meaning.specs.Fitting.{AreBelow, levels_of}
use Rattle.policy_meaning.specs.declared.scratch.Composed.{Composed}
use Rattle.policy_meaning.proofs.LevelsBelow.{operators, parallel-parts, sequential-parts, rules_are_below}
use Rattle.policy_meaning.proofs.scratch.+expression_rules.Goals as goal

pub expression_rules-requires : goal.expression_rules-requires
expression_rules-requires t c =
    let whole : policy_of c.args.expr.now ≡ parallel (policy_of c.deref.result.now) (policy_of c.in-Par.right.value) =
    rw (c.in-Par.is, ← c.deref.ensures) refl in
    let fit : levels_of c.args.tables.now (parallel (policy_of c.deref.result.now) (policy_of c.in-Par.right.value)) < 2
    ^ 64 = rw whole at c.requires.size in
    let smaller : operators (policy_of c.deref.result.now) < operators (policy_of c.args.expr.now) =
    rw whole (omega arith) in
    (search rules, (c.requires.tables, (parallel-parts c.args.tables.now c.requires.tables _ _ fit).0))

pub expression_rules-requires-in-Par : goal.expression_rules-requires-in-Par
expression_rules-requires-in-Par t c =
    let whole : policy_of c.args.expr.now ≡ parallel (policy_of c.in-Par.left.value)
    (policy_of c.deref-in-Par.result.now) = rw (c.in-Par.is, ← c.deref-in-Par.ensures) refl in
    let fit : levels_of c.args.tables.now
    (parallel (policy_of c.in-Par.left.value) (policy_of c.deref-in-Par.result.now)) < 2 ^ 64 =
    rw whole at c.requires.size in
    let smaller : operators (policy_of c.deref-in-Par.result.now) < operators (policy_of c.args.expr.now) =
    rw whole (omega arith) in
    (search rules, (c.requires.tables, (parallel-parts c.args.tables.now c.requires.tables _ _ fit).1))

pub expression_rules-requires-in-Seq : goal.expression_rules-requires-in-Seq
expression_rules-requires-in-Seq t c =
    let whole : policy_of c.args.expr.now ≡ sequential (policy_of c.deref-in-Seq.result.now)
    (policy_of c.in-Seq.right.value) = rw (c.in-Seq.is, ← c.deref-in-Seq.ensures) refl in
    let fit : levels_of c.args.tables.now
    (sequential (policy_of c.deref-in-Seq.result.now) (policy_of c.in-Seq.right.value)) < 2 ^ 64 =
    rw whole at c.requires.size in
    let smaller : operators (policy_of c.deref-in-Seq.result.now) < operators (policy_of c.args.expr.now) =
    rw whole (omega arith) in
    (search rules, (c.requires.tables, (sequential-parts c.args.tables.now c.requires.tables _ _ fit).0))

pub expression_rules-requires-in-Seq-2 : goal.expression_rules-requires-in-Seq-2
expression_rules-requires-in-Seq-2 t c =
    let whole : policy_of c.args.expr.now ≡ sequential (policy_of c.in-Seq.left.value)
    (policy_of c.deref-in-Seq-2.result.now) = rw (c.in-Seq.is, ← c.deref-in-Seq-2.ensures) refl in
    let fit : levels_of c.args.tables.now
    (sequential (policy_of c.in-Seq.left.value) (policy_of c.deref-in-Seq-2.result.now)) < 2 ^ 64 =
    rw whole at c.requires.size in
    let smaller : operators (policy_of c.deref-in-Seq-2.result.now) < operators (policy_of c.args.expr.now) =
    rw whole (omega arith) in
    (search rules, (c.requires.tables, (sequential-parts c.args.tables.now c.requires.tables _ _ fit).1))

pub composed_sum-requires-clause-left : goal.composed_sum-requires-clause-left
composed_sum-requires-clause-left t c = subst (λ (z : Composed). AreBelow z) (sym c.in_ok-first-in-Par.ensures)
    (rules_are_below c.args.tables.now c.args.ports.now (policy_of c.deref.result.now) c.requires.tables)

pub composed_sum-requires-clause-right : goal.composed_sum-requires-clause-right
composed_sum-requires-clause-right t c = subst (λ (z : Composed). AreBelow z) (sym c.in_ok-second-in-Par.ensures)
    (rules_are_below c.args.tables.now c.args.ports.now (policy_of c.deref-in-Par.result.now) c.requires.tables)

pub composed_chain-requires-clause-left : goal.composed_chain-requires-clause-left
composed_chain-requires-clause-left t c = subst (λ (z : Composed). AreBelow z) (sym c.in_ok-first-in-Seq.ensures)
    (rules_are_below c.args.tables.now c.args.ports.now (policy_of c.deref-in-Seq.result.now) c.requires.tables)

pub composed_chain-requires-clause-right : goal.composed_chain-requires-clause-right
composed_chain-requires-clause-right t c =
    subst (λ (z : Composed). AreBelow z) (sym c.in_ok-second-in-Seq.ensures)
    (rules_are_below c.args.tables.now c.args.ports.now (policy_of c.deref-in-Seq-2.result.now) c.requires.tables)

pub composed_shift-requires-clause-left : goal.composed_shift-requires-clause-left
composed_shift-requires-clause-left t c = subst (λ (z : Composed). AreBelow z) (sym c.in_ok-first-in-Over.ensures)
    (rules_are_below c.args.tables.now c.args.ports.now (policy_of c.deref-in-Over.result.now) c.requires.tables)
