use denote.Param.Send.{sendable}
use Rattle.std.proofs.Common.{ap, subst, sym, ◌∙◌}
use Rattle.made_rules.specs.Rules.{rules_in}
use Rattle.incr_compile.specs.Nodes.{CanJoin, IsNode, node_of}
use Rattle.incr_compile.specs.Trees.{branch, made_in, tree_of}
use Rattle.incr_compile.specs.declared.tree.Tree.{Tree}
use Rattle.incr_compile.proofs.Built.{over-can, over-is}
use Rattle.incr_compile.proofs.Wholes.{spent-at}
use Rattle.incr_compile.proofs.building.operator_tree.Goals as goal

pub of-requires : goal.of-requires
of-requires g c =
    let left = c.made.ensures ∙ ap (λ (z : Tree). made_in (tree_of z)) (c.deref.ensures ∙ c.in_ok-left.ensures.ok) in
    let right = c.made-2.ensures ∙ ap (λ (z : Tree). made_in (tree_of z))
    (c.deref-2.ensures ∙ c.in_ok-right.ensures.ok) in (
      search sendable,
      subst (λ z. CanJoin c.args.op c.args.size z c.made-2.result.now) (sym left)
          (subst (λ z. CanJoin c.args.op c.args.size (made_in (tree_of c.args.left)) z) (sym right)
          (over-can c.args.op c.args.size (tree_of c.args.left) (tree_of c.args.right) c.requires)),
    )

pub returns-clause-over : goal.returns-clause-over
returns-clause-over g c =
    let left = c.made.ensures ∙ ap (λ (z : Tree). made_in (tree_of z)) (c.deref.ensures ∙ c.in_ok-left.ensures.ok) in
    let right = c.made-2.ensures ∙ ap (λ (z : Tree). made_in (tree_of z))
    (c.deref-2.ensures ∙ c.in_ok-right.ensures.ok) in
    let node = node_of c.in_ok-node.node in
    over-is c.args.op c.args.size (tree_of c.args.left) (tree_of c.args.right) node _ c.requires
    c.in_ok-node.ensures.op c.in_ok-node.ensures.size
    (subst (λ z. IsNode node (rules_in (made_in (tree_of c.args.left))) (rules_in z)) right
    (subst (λ z. IsNode node (rules_in z) (rules_in c.made-2.result.now)) left c.in_ok-node.ensures.node))
    (ap (λ z. branch node (tree_of z) (tree_of c.in_ok-right.right.value)) c.in_ok-left.ensures.ok
    ∙ ap (λ z. branch node (tree_of c.args.left) (tree_of z)) c.in_ok-right.ensures.ok)

pub returns-in_err-node-clause-steps : goal.returns-in_err-node-clause-steps
returns-in_err-node-clause-steps g c =
    spent-at c.args.op c.made.result.now (made_in (tree_of c.args.left)) c.made-2.result.now
    (made_in (tree_of c.args.right)) c.args.steps.now c.of.new.steps
    (c.made.ensures ∙ ap (λ (z : Tree). made_in (tree_of z)) (c.deref.ensures ∙ c.in_ok-left.ensures.ok))
    (c.made-2.ensures ∙ ap (λ (z : Tree). made_in (tree_of z)) (c.deref-2.ensures ∙ c.in_ok-right.ensures.ok))
    c.of.ensures.steps

pub returns-clause-steps : goal.returns-clause-steps
returns-clause-steps g c =
    spent-at c.args.op c.made.result.now (made_in (tree_of c.args.left)) c.made-2.result.now
    (made_in (tree_of c.args.right)) c.args.steps.now c.of.new.steps
    (c.made.ensures ∙ ap (λ (z : Tree). made_in (tree_of z)) (c.deref.ensures ∙ c.in_ok-left.ensures.ok))
    (c.made-2.ensures ∙ ap (λ (z : Tree). made_in (tree_of z)) (c.deref-2.ensures ∙ c.in_ok-right.ensures.ok))
    c.of.ensures.steps
