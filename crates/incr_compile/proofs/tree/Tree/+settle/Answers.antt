use Rattle.std.proofs.Common.{rules, ap, subst, sym, ◌∙◌, List, ℕ}
use Rattle.std.specs.Prelude.{IsPermutation, filter_map}
use Rattle.rule_ancestry.specs.Holding.{Held}
use Rattle.made_rules.specs.Changing.{IsReady}
use Rattle.made_rules.specs.Rules.{rules_in}
use Rattle.made_rules.specs.declared.made.Made.{Made}
use Rattle.incr_compile.specs.Candidates.{asked as asks, reach, shown}
use Rattle.incr_compile.specs.Nodes.{node_of}
use Rattle.incr_compile.specs.Trees.{IsReadyIn, IsUnderWay, made_in, tree_of}
use Rattle.incr_compile.proofs.TreeSteps.{left-smaller, right-smaller, left-at, left-by, none-below, read-at}
use Rattle.incr_compile.proofs.TreeSteps.{right-by, settled-left-by, settled-member, settled-right-by, under-wide}
use Rattle.incr_compile.proofs.tree.Tree.+settle.Goals as goal

pub settle-requires : goal.settle-requires
settle-requires t c = under-wide _ c.args.change (subst (λ z. IsUnderWay z c.args.change) c.in-Member.is c.requires)

pub returns-in-Member-clause-settled : goal.returns-in-Member-clause-settled
returns-in-Member-clause-settled t c asked before after can f =
    settled-member asked before c.in-Member.member c.in-Member.size c.in-Member.made c.settle.new.store c.args.change
    after can (subst (λ z. IsReadyIn asked before z c.args.change after) c.in-Member.is f) c.settle.ensures.settled

pub returns-in-Member-clause-left : goal.returns-in-Member-clause-left
returns-in-Member-clause-left t c = left-at c.args.self.now _ c.args.change c.settle.result.items c.in-Member.is
    c.settle.ensures.left

pub settle_left-gone-requires-clause-room : goal.settle_left-gone-requires-clause-room
settle_left-gone-requires-clause-room t c =
    let u = (subst (λ z. IsUnderWay z c.args.change) c.in-Operator.is c.requires) in
    let o = left-by c.in-Operator.node c.in-Operator.left.value c.in-Operator.right.value c.in-Some.field-0.side
    c.in-Some.field-0.change c.args.change (sym c.take.ensures.value ∙ c.in-Some.is) u.asked u.before u.after _ _
    u.can u.ready c.in-Left.is in
    o.room

pub settle_left-gone-requires-clause-shown : goal.settle_left-gone-requires-clause-shown
settle_left-gone-requires-clause-shown t c =
    let u = (subst (λ z. IsUnderWay z c.args.change) c.in-Operator.is c.requires) in
    let o = left-by c.in-Operator.node c.in-Operator.left.value c.in-Operator.right.value c.in-Some.field-0.side
    c.in-Some.field-0.change c.args.change (sym c.take.ensures.value ∙ c.in-Some.is) u.asked u.before u.after _ _
    u.can u.ready c.in-Left.is in
    subst (λ (z : List (Held Made)). (b : List (Held Made)) × (lost : List ℕ) × (fresh : List Made)
    × IsReady b z lost fresh c.in-Some.field-0.change
    × IsPermutation c.in-Operator.node.lefts.items (filter_map (shown (reach c.in-Operator.node.op)) (rules_in b)))
    (sym (c.made.ensures ∙ ap (λ z. made_in (tree_of z)) c.deref.ensures)) o.shown

pub settle_left-gone-requires-clause-wide : goal.settle_left-gone-requires-clause-wide
settle_left-gone-requires-clause-wide t c =
    under-wide _ c.args.change (subst (λ z. IsUnderWay z c.args.change) c.in-Operator.is c.requires)

pub settle-requires-in-Left : goal.settle-requires-in-Left
settle-requires-in-Left t c =
    let u = (subst (λ z. IsUnderWay z c.args.change) c.in-Operator.is c.requires) in
    let o = left-by c.in-Operator.node c.in-Operator.left.value c.in-Operator.right.value c.in-Some.field-0.side
    c.in-Some.field-0.change c.args.change (sym c.take.ensures.value ∙ c.in-Some.is) u.asked u.before u.after _ _
    u.can u.ready c.in-Left.is in
    let smaller = left-smaller (tree_of c.args.self.now) (tree_of c.deref_mut.result.now) (node_of c.in-Operator.node)
    (tree_of c.in-Operator.left.value) (tree_of c.in-Operator.right.value) (ap tree_of c.in-Operator.is)
    (ap tree_of c.deref_mut.ensures.value) in
    (search rules, subst (λ z. IsUnderWay z c.in-Some.field-0.change) (sym c.deref_mut.ensures.value) o.operand)

pub returns-in-Left-clause-settled : goal.returns-in-Left-clause-settled
returns-in-Left-clause-settled t c asked before after can f =
    settled-left-by c.in-Operator.node c.in-Operator.left.value c.in-Operator.right.value c.in-Some.field-0.side
    c.in-Some.field-0.change c.args.change (sym c.take.ensures.value ∙ c.in-Some.is) asked before after _ _
    c.settle_left-gone.new.self c.settle-in-Left.new.self can
    (subst (λ z. IsReadyIn asked before z c.args.change after) c.in-Operator.is f) c.in-Left.is
    (read-at c.in-Some.field-0.change
    (λ b. IsPermutation c.in-Operator.node.lefts.items
    (filter_map (shown (reach c.in-Operator.node.op)) (rules_in b)))
    (λ z. IsPermutation c.settle_left-gone.new.self.lefts.items
    (filter_map (shown (reach c.in-Operator.node.op)) (rules_in z))) _ _
    (c.made.ensures ∙ ap (λ z. made_in (tree_of z)) c.deref.ensures) c.settle_left-gone.ensures.shown)
    c.settle_left-gone.ensures.settled c.settle_left-gone.ensures.rest
    (λ a b m k g. c.settle-in-Left.ensures.settled a b m k
    (subst (λ z. IsReadyIn a b z c.in-Some.field-0.change m) (sym c.deref_mut.ensures.value) g))

pub returns-in-Left-clause-left : goal.returns-in-Left-clause-left
returns-in-Left-clause-left t c = left-at c.args.self.now _ c.args.change c.settle_left-gone.result.items
    c.in-Operator.is c.settle_left-gone.ensures.left

pub settle_right-gone-requires-clause-room : goal.settle_right-gone-requires-clause-room
settle_right-gone-requires-clause-room t c =
    let u = (subst (λ z. IsUnderWay z c.args.change) c.in-Operator.is c.requires) in
    let o = right-by c.in-Operator.node c.in-Operator.left.value c.in-Operator.right.value c.in-Some.field-0.side
    c.in-Some.field-0.change c.args.change (sym c.take.ensures.value ∙ c.in-Some.is) u.asked u.before u.after _ _
    u.can u.ready c.in-Right.is in
    o.room

pub settle_right-gone-requires-clause-shown : goal.settle_right-gone-requires-clause-shown
settle_right-gone-requires-clause-shown t c =
    let u = (subst (λ z. IsUnderWay z c.args.change) c.in-Operator.is c.requires) in
    let o = right-by c.in-Operator.node c.in-Operator.left.value c.in-Operator.right.value c.in-Some.field-0.side
    c.in-Some.field-0.change c.args.change (sym c.take.ensures.value ∙ c.in-Some.is) u.asked u.before u.after _ _
    u.can u.ready c.in-Right.is in
    subst (λ (z : List (Held Made)). (b : List (Held Made)) × (lost : List ℕ) × (fresh : List Made)
    × IsReady b z lost fresh c.in-Some.field-0.change
    × IsPermutation c.in-Operator.node.rights.items (filter_map (shown (asks c.in-Operator.node.op)) (rules_in b)))
    (sym (c.made-in-Right.ensures ∙ ap (λ z. made_in (tree_of z)) c.deref-in-Right.ensures)) o.shown

pub settle_right-gone-requires-clause-wide : goal.settle_right-gone-requires-clause-wide
settle_right-gone-requires-clause-wide t c =
    under-wide _ c.args.change (subst (λ z. IsUnderWay z c.args.change) c.in-Operator.is c.requires)

pub settle-requires-in-Right : goal.settle-requires-in-Right
settle-requires-in-Right t c =
    let u = (subst (λ z. IsUnderWay z c.args.change) c.in-Operator.is c.requires) in
    let o = right-by c.in-Operator.node c.in-Operator.left.value c.in-Operator.right.value c.in-Some.field-0.side
    c.in-Some.field-0.change c.args.change (sym c.take.ensures.value ∙ c.in-Some.is) u.asked u.before u.after _ _
    u.can u.ready c.in-Right.is in
    let smaller = right-smaller (tree_of c.args.self.now) (tree_of c.deref_mut-in-Right.result.now)
    (node_of c.in-Operator.node) (tree_of c.in-Operator.left.value) (tree_of c.in-Operator.right.value)
    (ap tree_of c.in-Operator.is) (ap tree_of c.deref_mut-in-Right.ensures.value) in (
      search rules,
      subst (λ z. IsUnderWay z c.in-Some.field-0.change) (sym c.deref_mut-in-Right.ensures.value)
          o.operand,
    )

pub returns-in-Right-clause-settled : goal.returns-in-Right-clause-settled
returns-in-Right-clause-settled t c asked before after can f =
    settled-right-by c.in-Operator.node c.in-Operator.left.value c.in-Operator.right.value c.in-Some.field-0.side
    c.in-Some.field-0.change c.args.change (sym c.take.ensures.value ∙ c.in-Some.is) asked before after _ _
    c.settle_right-gone.new.self c.settle-in-Right.new.self can
    (subst (λ z. IsReadyIn asked before z c.args.change after) c.in-Operator.is f) c.in-Right.is
    (read-at c.in-Some.field-0.change
    (λ b. IsPermutation c.in-Operator.node.rights.items
    (filter_map (shown (asks c.in-Operator.node.op)) (rules_in b)))
    (λ z. IsPermutation c.settle_right-gone.new.self.rights.items
    (filter_map (shown (asks c.in-Operator.node.op)) (rules_in z))) _ _
    (c.made-in-Right.ensures ∙ ap (λ z. made_in (tree_of z)) c.deref-in-Right.ensures)
    c.settle_right-gone.ensures.shown)
    c.settle_right-gone.ensures.settled c.settle_right-gone.ensures.rest
    (λ a b m k g. c.settle-in-Right.ensures.settled a b m k
    (subst (λ z. IsReadyIn a b z c.in-Some.field-0.change m) (sym c.deref_mut-in-Right.ensures.value) g))

pub returns-in-Right-clause-left : goal.returns-in-Right-clause-left
returns-in-Right-clause-left t c = left-at c.args.self.now _ c.args.change c.settle_right-gone.result.items
    c.in-Operator.is c.settle_right-gone.ensures.left

pub settle-requires-in-None : goal.settle-requires-in-None
settle-requires-in-None t c = under-wide _ c.args.change
    (subst (λ z. IsUnderWay z c.args.change) c.in-Operator.is c.requires)

pub returns-in-None-clause-settled : goal.returns-in-None-clause-settled
returns-in-None-clause-settled t c asked before after can f =
    absurd (none-below asked before c.in-Operator.node c.in-Operator.left.value c.in-Operator.right.value _ _
    c.args.change after (subst (λ z. IsReadyIn asked before z c.args.change after) c.in-Operator.is f)
    (sym c.take.ensures.value ∙ c.in-None.is))

pub returns-in-None-clause-left : goal.returns-in-None-clause-left
returns-in-None-clause-left t c = left-at c.args.self.now _ c.args.change c.settle-in-None.result.items c.in-Operator.is
    c.settle-in-None.ensures.left
