use Rattle.std.proofs.Common.{rules, ap, refl, subst, sym, ◌∙◌}
use Rattle.incr_compile.specs.Nodes.{node_of}
use Rattle.incr_compile.specs.Trees.{IsReadyIn, IsUnderWay, tree_of}
use Rattle.incr_compile.proofs.TreeSteps.{left-smaller, right-smaller, left-by, none-below, right-by, under-wide}
use Rattle.incr_compile.proofs.TreeSteps.{undone-left-by, undone-member, undone-right-by}
use Rattle.incr_compile.proofs.tree.Tree.+undo.Goals as goal

pub undo-requires : goal.undo-requires
undo-requires t c = under-wide _ c.args.change (subst (λ z. IsUnderWay z c.args.change) c.in-Member.is c.requires)

pub undo-requires-in-Operator : goal.undo-requires-in-Operator
undo-requires-in-Operator t c = under-wide _ c.args.change
    (subst (λ z. IsUnderWay z c.args.change) c.in-Operator.is c.requires)

pub undo-requires-in-Left : goal.undo-requires-in-Left
undo-requires-in-Left t c =
    let u = (subst (λ z. IsUnderWay z c.args.change) c.in-Operator.is c.requires) in
    let o = left-by c.in-Operator.node c.in-Operator.left.value c.in-Operator.right.value c.in-Some.field-0.side
    c.in-Some.field-0.change c.args.change (sym c.take.ensures.value ∙ c.in-Some.is) u.asked u.before u.after _ _
    u.can u.ready c.in-Left.is in
    let smaller = left-smaller (tree_of c.args.self.now) (tree_of c.deref_mut.result.now) (node_of c.in-Operator.node)
    (tree_of c.in-Operator.left.value) (tree_of c.in-Operator.right.value) (ap tree_of c.in-Operator.is)
    (ap tree_of c.deref_mut.ensures.value) in
    (search rules, subst (λ z. IsUnderWay z c.in-Some.field-0.change) (sym c.deref_mut.ensures.value) o.operand)

pub undo-requires-in-Right : goal.undo-requires-in-Right
undo-requires-in-Right t c =
    let u = (subst (λ z. IsUnderWay z c.args.change) c.in-Operator.is c.requires) in
    let o = right-by c.in-Operator.node c.in-Operator.left.value c.in-Operator.right.value c.in-Some.field-0.side
    c.in-Some.field-0.change c.args.change (sym c.take.ensures.value ∙ c.in-Some.is) u.asked u.before u.after _ _
    u.can u.ready c.in-Right.is in
    let smaller = right-smaller (tree_of c.args.self.now) (tree_of c.deref_mut-in-Right.result.now)
    (node_of c.in-Operator.node) (tree_of c.in-Operator.left.value) (tree_of c.in-Operator.right.value)
    (ap tree_of c.in-Operator.is) (ap tree_of c.deref_mut-in-Right.ensures.value) in (
      search rules,
      subst (λ z. IsUnderWay z c.in-Some.field-0.change) (sym c.deref_mut-in-Right.ensures.value)
          o.operand,
    )

pub returns-in-Member : goal.returns-in-Member
returns-in-Member t c asked before after f =
    undone-member asked before c.in-Member.member c.in-Member.size c.in-Member.made c.undo.new.store c.args.change after
    (subst (λ z. IsReadyIn asked before z c.args.change after) c.in-Member.is f) c.undo.ensures

pub returns-in-Left : goal.returns-in-Left
returns-in-Left t c asked before after f =
    undone-left-by c.in-Operator.node c.in-Operator.left.value c.in-Operator.right.value c.in-Some.field-0.side
    c.in-Some.field-0.change c.args.change (sym c.take.ensures.value ∙ c.in-Some.is) asked before after _ _
    (record c.in-Operator.node { made = c.undo-in-Operator.new.store; below = c.take.new.self })
    (tree_of c.undo-in-Left.new.self) (subst (λ z. IsReadyIn asked before z c.args.change after) c.in-Operator.is f)
    c.in-Left.is
    c.undo-in-Operator.ensures refl
    (λ a b m g. c.undo-in-Left.ensures a b m
    (subst (λ z. IsReadyIn a b z c.in-Some.field-0.change m) (sym c.deref_mut.ensures.value) g))

pub returns-in-Right : goal.returns-in-Right
returns-in-Right t c asked before after f =
    undone-right-by c.in-Operator.node c.in-Operator.left.value c.in-Operator.right.value c.in-Some.field-0.side
    c.in-Some.field-0.change c.args.change (sym c.take.ensures.value ∙ c.in-Some.is) asked before after _ _
    (record c.in-Operator.node { made = c.undo-in-Operator.new.store; below = c.take.new.self })
    (tree_of c.undo-in-Right.new.self)
    (subst (λ z. IsReadyIn asked before z c.args.change after) c.in-Operator.is f) c.in-Right.is
    c.undo-in-Operator.ensures refl
    (λ a b m g. c.undo-in-Right.ensures a b m
    (subst (λ z. IsReadyIn a b z c.in-Some.field-0.change m) (sym c.deref_mut-in-Right.ensures.value) g))

pub returns-in-None : goal.returns-in-None
returns-in-None t c asked before after f =
    absurd (none-below asked before c.in-Operator.node c.in-Operator.left.value c.in-Operator.right.value _ _
    c.args.change after (subst (λ z. IsReadyIn asked before z c.args.change after) c.in-Operator.is f)
    (sym c.take.ensures.value ∙ c.in-None.is))
