use Rattle.std.proofs.Common.{◌+◌, ◌≤◌, ap, arith, refl, subst, sym, ◌∙◌, List}
use Rattle.std.proofs.lemmas.Result.{IfOk-weaker}
use Rattle.rule_ancestry.specs.Holding.{Held}
use Rattle.made_rules.specs.Rules.{rules_in}
use Rattle.made_rules.specs.declared.made.Made.{Made}
use Rattle.incr_compile.specs.Compiling.{IsOf, policy_in}
use Rattle.incr_compile.specs.Costs.{steps_of}
use Rattle.incr_compile.specs.Nodes.{IsCarried, made_by, node_of}
use Rattle.incr_compile.specs.Trees.{CanChange, IsReadyIn, has_member, made_in, tree_of}
use Rattle.incr_compile.proofs.Carrying.{found-held}
use Rattle.incr_compile.proofs.Spent.{left-spent, left-stopped, right-spent, right-stopped}
use Rattle.incr_compile.proofs.TreeSteps.{all-ok, at-tree, carry-left-can, carry-right-can, left-changes-at}
use Rattle.incr_compile.proofs.TreeSteps.{right-changes-at, ready-left-all, ready-member, ready-right-all}
use Rattle.incr_compile.proofs.tree.Tree.+ready.Goals as goal

pub ready-requires : goal.ready-requires
ready-requires g t c = found-held c.in-Member.made c.deref.result.now c.deref-in-Member.result.now
    (c.deref-in-Member.ensures.value ∙ c.in_ok-lost-in-Member.ensures)

pub carry_left-requires : goal.carry_left-requires
carry_left-requires g t c =
    carry-left-can c.args.asked (node_of c.in-Operator.node) (tree_of c.in-Operator.left.value)
    (tree_of c.in-Operator.right.value) (tree_of c.deref-then-has.result.now) c.deref_mut.result.now
    c.deref_mut-then-has.result.now c.in_ok-below-in-Operator.below
    (subst (λ z. CanChange c.args.asked (tree_of z)) c.in-Operator.is c.requires)
    (sym (c.has.ensures ∙ ap (λ z. has_member c.args.asked.member (tree_of z)) c.deref-in-Operator.ensures)
    ∙ c.if-has.true)
    (ap tree_of c.deref_mut.ensures.value) (ap tree_of c.deref-then-has.ensures)
    c.in_ok-below-in-Operator.ensures.ready.0
    (subst (λ z. IsReadyIn c.args.asked (tree_of c.deref_mut.result.now) z c.in_ok-below-in-Operator.below
    c.in_ok-below-in-Operator.ensures.ready.0) (sym c.deref_mut-then-has.ensures.value)
    c.in_ok-below-in-Operator.ensures.ready.1)

pub carry_right-requires : goal.carry_right-requires
carry_right-requires g t c =
    carry-right-can c.args.asked (node_of c.in-Operator.node) (tree_of c.in-Operator.left.value)
    (tree_of c.in-Operator.right.value) (tree_of c.deref-else-has.result.now) c.deref_mut-else-has.result.now
    c.deref_mut-else-has-2.result.now c.in_ok-below-in-Operator-2.below
    (subst (λ z. CanChange c.args.asked (tree_of z)) c.in-Operator.is c.requires)
    (sym (c.has.ensures ∙ ap (λ z. has_member c.args.asked.member (tree_of z)) c.deref-in-Operator.ensures)
    ∙ c.if-has.false)
    (ap tree_of c.deref_mut-else-has.ensures.value) (ap tree_of c.deref-else-has.ensures)
    c.in_ok-below-in-Operator-2.ensures.ready.0
    (subst (λ z. IsReadyIn c.args.asked (tree_of c.deref_mut-else-has.result.now) z c.in_ok-below-in-Operator-2.below
    c.in_ok-below-in-Operator-2.ensures.ready.0) (sym c.deref_mut-else-has-2.ensures.value)
    c.in_ok-below-in-Operator-2.ensures.ready.1)

pub returns-in_ok-lost-in-Member-clause-ready : goal.returns-in_ok-lost-in-Member-clause-ready
returns-in_ok-lost-in-Member-clause-ready g t c =
    IfOk-weaker c.ready.result _ _ (λ change u.
    let r = ready-member c.args.asked c.in-Member.member c.in-Member.size c.in-Member.made c.ready.new.store
    c.deref-in-Member.result.now c.deref.result.now _ change
    (subst (λ z. CanChange c.args.asked (tree_of z)) c.in-Member.is c.requires) u refl c.deref.ensures.value
    (c.deref-in-Member.ensures.value ∙ c.in_ok-lost-in-Member.ensures) in
    (r.0, at-tree c.args.asked _ _ _ change r.0 (ap tree_of c.in-Member.is) r.1))
    c.ready.ensures.ready

pub returns-in_ok-below-in-Operator-clause-ready : goal.returns-in_ok-below-in-Operator-clause-ready
returns-in_ok-below-in-Operator-clause-ready g t c =
    let k = left-changes-at c.args.asked (node_of c.in-Operator.node) (tree_of c.in-Operator.left.value)
    (tree_of c.in-Operator.right.value) (tree_of c.deref-then-has.result.now) c.deref_mut.result.now
    c.deref_mut-then-has.result.now c.in_ok-below-in-Operator.below
    (subst (λ z. CanChange c.args.asked (tree_of z)) c.in-Operator.is c.requires)
    (ap tree_of c.deref_mut.ensures.value) (ap tree_of c.deref-then-has.ensures)
    c.in_ok-below-in-Operator.ensures.ready.0
    (subst (λ z. IsReadyIn c.args.asked (tree_of c.deref_mut.result.now) z c.in_ok-below-in-Operator.below
    c.in_ok-below-in-Operator.ensures.ready.0) (sym c.deref_mut-then-has.ensures.value)
    c.in_ok-below-in-Operator.ensures.ready.1) in
    all-ok c.carry_left.result _ _ _ _ _
    (c.carry_left.ensures.carried (made_in (tree_of c.in-Operator.left.value))
    c.in_ok-below-in-Operator.ensures.ready.0 k) c.carry_left.ensures.below c.carry_left.ensures.room
    c.carry_left.ensures.left
    (λ change b room same x.
    let y = ready-left-all c.args.asked c.in-Operator.node c.carry_left.new.node c.in-Operator.left.value
    c.in-Operator.right.value c.carry_left.new.left c.in_ok-below-in-Operator.below change
    c.in_ok-below-in-Operator.ensures.ready.0
    (subst (λ z. CanChange c.args.asked (tree_of z)) c.in-Operator.is c.requires)
    (sym (c.has.ensures ∙ ap (λ z. has_member c.args.asked.member (tree_of z)) c.deref-in-Operator.ensures)
    ∙ c.if-has.true)
    (subst (λ z. IsReadyIn c.args.asked (tree_of c.in-Operator.left.value) z c.in_ok-below-in-Operator.below
    c.in_ok-below-in-Operator.ensures.ready.0) (sym (same ∙ c.deref_mut-then-has.ensures.value))
    (subst (λ z. IsReadyIn c.args.asked (tree_of z) c.ready-then-has.new.self c.in_ok-below-in-Operator.below
    c.in_ok-below-in-Operator.ensures.ready.0) c.deref_mut.ensures.value c.in_ok-below-in-Operator.ensures.ready.1))
    b room c.carry_left.ensures.rest
    (subst (λ z. (after : List (Held Made))
    × IsCarried c.in-Operator.node.made c.carry_left.new.node.made after change
    (made_by (node_of c.in-Operator.node) (rules_in c.in_ok-below-in-Operator.ensures.ready.0)
    (rules_in (made_in (tree_of z))))) c.deref-then-has.ensures x) in
    (y.0, at-tree c.args.asked _ _ _ change y.0 (ap tree_of c.in-Operator.is) y.1))

pub returns-in_ok-below-in-Operator-2-clause-ready : goal.returns-in_ok-below-in-Operator-2-clause-ready
returns-in_ok-below-in-Operator-2-clause-ready g t c =
    let k = right-changes-at c.args.asked (node_of c.in-Operator.node) (tree_of c.in-Operator.left.value)
    (tree_of c.in-Operator.right.value) (tree_of c.deref-else-has.result.now) c.deref_mut-else-has.result.now
    c.deref_mut-else-has-2.result.now c.in_ok-below-in-Operator-2.below
    (subst (λ z. CanChange c.args.asked (tree_of z)) c.in-Operator.is c.requires)
    (ap tree_of c.deref_mut-else-has.ensures.value) (ap tree_of c.deref-else-has.ensures)
    c.in_ok-below-in-Operator-2.ensures.ready.0
    (subst (λ z. IsReadyIn c.args.asked (tree_of c.deref_mut-else-has.result.now) z c.in_ok-below-in-Operator-2.below
    c.in_ok-below-in-Operator-2.ensures.ready.0) (sym c.deref_mut-else-has-2.ensures.value)
    c.in_ok-below-in-Operator-2.ensures.ready.1) in
    all-ok c.carry_right.result _ _ _ _ _
    (c.carry_right.ensures.carried (made_in (tree_of c.in-Operator.right.value))
    c.in_ok-below-in-Operator-2.ensures.ready.0 k) c.carry_right.ensures.below c.carry_right.ensures.room
    c.carry_right.ensures.right
    (λ change b room same x.
    let y = ready-right-all c.args.asked c.in-Operator.node c.carry_right.new.node c.in-Operator.left.value
    c.in-Operator.right.value c.carry_right.new.right c.in_ok-below-in-Operator-2.below change
    c.in_ok-below-in-Operator-2.ensures.ready.0
    (subst (λ z. CanChange c.args.asked (tree_of z)) c.in-Operator.is c.requires)
    (sym (c.has.ensures ∙ ap (λ z. has_member c.args.asked.member (tree_of z)) c.deref-in-Operator.ensures)
    ∙ c.if-has.false)
    (subst (λ z. IsReadyIn c.args.asked (tree_of c.in-Operator.right.value) z c.in_ok-below-in-Operator-2.below
    c.in_ok-below-in-Operator-2.ensures.ready.0) (sym (same ∙ c.deref_mut-else-has-2.ensures.value))
    (subst (λ z. IsReadyIn c.args.asked (tree_of z) c.ready-else-has.new.self c.in_ok-below-in-Operator-2.below
    c.in_ok-below-in-Operator-2.ensures.ready.0) c.deref_mut-else-has.ensures.value
    c.in_ok-below-in-Operator-2.ensures.ready.1))
    b room c.carry_right.ensures.rest
    (subst (λ z. (after : List (Held Made))
    × IsCarried c.in-Operator.node.made c.carry_right.new.node.made after change
    (made_by (node_of c.in-Operator.node) (rules_in (made_in (tree_of z)))
    (rules_in c.in_ok-below-in-Operator-2.ensures.ready.0))) c.deref-else-has.ensures x) in
    (y.0, at-tree c.args.asked _ _ _ change y.0 (ap tree_of c.in-Operator.is) y.1))

pub returns-in_err-lost-in-Member-clause-steps : goal.returns-in_err-lost-in-Member-clause-steps
returns-in_err-lost-in-Member-clause-steps g t c delta sizes before after k m o = omega arith

pub returns-in_ok-lost-in-Member-clause-steps : goal.returns-in_ok-lost-in-Member-clause-steps
returns-in_ok-lost-in-Member-clause-steps g t c delta sizes before after k m o = omega arith

pub returns-in_err-below-in-Operator-clause-steps : goal.returns-in_err-below-in-Operator-clause-steps
returns-in_err-below-in-Operator-clause-steps g t c delta sizes before after k m o =
    let can = subst (λ z. CanChange c.args.asked (tree_of z)) c.in-Operator.is c.requires in
    let parts = subst (λ z. IsOf sizes before (tree_of z)) c.in-Operator.is o in
    subst (λ z. c.ready-then-has.new.steps ≤ c.args.steps.now + steps_of sizes before after (policy_in (tree_of z)))
    (sym c.in-Operator.is)
    (left-stopped delta c.args.asked sizes before after k m (node_of c.in-Operator.node)
    (tree_of c.in-Operator.left.value) (tree_of c.in-Operator.right.value) can parts
    (tree_of c.deref_mut.result.now) (ap tree_of c.deref_mut.ensures.value) c.args.steps.now
    c.ready-then-has.new.steps
    (c.ready-then-has.ensures.steps delta sizes before after k m
    (subst (λ z. IsOf sizes before (tree_of z)) (sym c.deref_mut.ensures.value) parts.0)))

pub returns-in_ok-below-in-Operator-clause-steps : goal.returns-in_ok-below-in-Operator-clause-steps
returns-in_ok-below-in-Operator-clause-steps g t c delta sizes before after k m o =
    let can = subst (λ z. CanChange c.args.asked (tree_of z)) c.in-Operator.is c.requires in
    let parts = subst (λ z. IsOf sizes before (tree_of z)) c.in-Operator.is o in
    let mid = c.in_ok-below-in-Operator.ensures.ready.0 in
    let ready =
    subst (λ z. IsReadyIn c.args.asked (tree_of c.deref_mut.result.now) z c.in_ok-below-in-Operator.below mid)
    (sym c.deref_mut-then-has.ensures.value) c.in_ok-below-in-Operator.ensures.ready.1 in
    let changes = left-changes-at c.args.asked (node_of c.in-Operator.node) (tree_of c.in-Operator.left.value)
    (tree_of c.in-Operator.right.value) (tree_of c.deref-then-has.result.now) c.deref_mut.result.now
    c.deref_mut-then-has.result.now c.in_ok-below-in-Operator.below can
    (ap tree_of c.deref_mut.ensures.value) (ap tree_of c.deref-then-has.ensures) mid ready in
    subst (λ z. c.carry_left.new.steps ≤ c.args.steps.now + steps_of sizes before after (policy_in (tree_of z)))
    (sym c.in-Operator.is)
    (left-spent delta c.args.asked sizes before after k m (node_of c.in-Operator.node)
    (tree_of c.in-Operator.left.value) (tree_of c.in-Operator.right.value) can parts
    (tree_of c.deref-then-has.result.now) c.deref_mut.result.now c.deref_mut-then-has.result.now
    c.in_ok-below-in-Operator.below
    (sym (c.has.ensures ∙ ap (λ z. has_member c.args.asked.member (tree_of z)) c.deref-in-Operator.ensures)
    ∙ c.if-has.true) (ap tree_of c.deref_mut.ensures.value) (ap tree_of c.deref-then-has.ensures) mid ready changes
    c.args.steps.now c.ready-then-has.new.steps c.carry_left.new.steps
    (c.ready-then-has.ensures.steps delta sizes before after k m
    (subst (λ z. IsOf sizes before (tree_of z)) (sym c.deref_mut.ensures.value) parts.0))
    (c.carry_left.ensures.steps (made_in (tree_of c.in-Operator.left.value)) mid changes))

pub returns-in_err-below-in-Operator-2-clause-steps : goal.returns-in_err-below-in-Operator-2-clause-steps
returns-in_err-below-in-Operator-2-clause-steps g t c delta sizes before after k m o =
    let can = subst (λ z. CanChange c.args.asked (tree_of z)) c.in-Operator.is c.requires in
    let parts = subst (λ z. IsOf sizes before (tree_of z)) c.in-Operator.is o in
    subst (λ z. c.ready-else-has.new.steps ≤ c.args.steps.now + steps_of sizes before after (policy_in (tree_of z)))
    (sym c.in-Operator.is)
    (right-stopped delta c.args.asked sizes before after k m (node_of c.in-Operator.node)
    (tree_of c.in-Operator.left.value) (tree_of c.in-Operator.right.value) can parts
    (tree_of c.deref_mut-else-has.result.now) (ap tree_of c.deref_mut-else-has.ensures.value) c.args.steps.now
    c.ready-else-has.new.steps
    (c.ready-else-has.ensures.steps delta sizes before after k m
    (subst (λ z. IsOf sizes before (tree_of z)) (sym c.deref_mut-else-has.ensures.value) parts.1)))

pub returns-in_ok-below-in-Operator-2-clause-steps : goal.returns-in_ok-below-in-Operator-2-clause-steps
returns-in_ok-below-in-Operator-2-clause-steps g t c delta sizes before after k m o =
    let can = subst (λ z. CanChange c.args.asked (tree_of z)) c.in-Operator.is c.requires in
    let parts = subst (λ z. IsOf sizes before (tree_of z)) c.in-Operator.is o in
    let mid = c.in_ok-below-in-Operator-2.ensures.ready.0 in
    let ready =
    subst (λ z. IsReadyIn c.args.asked (tree_of c.deref_mut-else-has.result.now) z c.in_ok-below-in-Operator-2.below
    mid) (sym c.deref_mut-else-has-2.ensures.value) c.in_ok-below-in-Operator-2.ensures.ready.1 in
    let changes = right-changes-at c.args.asked (node_of c.in-Operator.node) (tree_of c.in-Operator.left.value)
    (tree_of c.in-Operator.right.value) (tree_of c.deref-else-has.result.now) c.deref_mut-else-has.result.now
    c.deref_mut-else-has-2.result.now c.in_ok-below-in-Operator-2.below can
    (ap tree_of c.deref_mut-else-has.ensures.value) (ap tree_of c.deref-else-has.ensures) mid ready in
    subst (λ z. c.carry_right.new.steps ≤ c.args.steps.now + steps_of sizes before after (policy_in (tree_of z)))
    (sym c.in-Operator.is)
    (right-spent delta c.args.asked sizes before after k m (node_of c.in-Operator.node)
    (tree_of c.in-Operator.left.value) (tree_of c.in-Operator.right.value) can parts
    (tree_of c.deref-else-has.result.now) c.deref_mut-else-has.result.now c.deref_mut-else-has-2.result.now
    c.in_ok-below-in-Operator-2.below
    (sym (c.has.ensures ∙ ap (λ z. has_member c.args.asked.member (tree_of z)) c.deref-in-Operator.ensures)
    ∙ c.if-has.false) (ap tree_of c.deref_mut-else-has.ensures.value) (ap tree_of c.deref-else-has.ensures) mid
    ready changes
    c.args.steps.now c.ready-else-has.new.steps c.carry_right.new.steps
    (c.ready-else-has.ensures.steps delta sizes before after k m
    (subst (λ z. IsOf sizes before (tree_of z)) (sym c.deref_mut-else-has.ensures.value) parts.1))
    (c.carry_right.ensures.steps (made_in (tree_of c.in-Operator.right.value)) mid changes))
