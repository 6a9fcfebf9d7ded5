use Rattle.std.proofs.Common.{subst, sym, ◌+◌, ◌≤◌, List}
use Rattle.rule_ancestry.specs.Holding.{Held}
use Rattle.made_rules.specs.Rules.{rules_in}
use Rattle.made_rules.specs.declared.made.Made.{Made}
use Rattle.incr_compile.specs.Candidates.{left_cost}
use Rattle.incr_compile.specs.Nodes.{IsCarried, LeftChanges, made_by, node_of}
use Rattle.incr_compile.specs.Trees.{made_in, tree_of}
use Rattle.incr_compile.proofs.tree.carry_left.Goals as goal

pub returns-in-Ok-clause-carried : goal.returns-in-Ok-clause-carried
returns-in-Ok-clause-carried g c before mid l =
    subst (λ z. (x : List (Held Made))
    × IsCarried c.args.node.now.made c.ready_left.new.self.made x c.in-Ok.change
    (made_by (node_of c.args.node.now) (rules_in mid) (rules_in z))) c.made-3.ensures
    (c.in-Ok.ensures.ready before mid
    (subst (λ z. LeftChanges (node_of c.args.node.now) before z mid c.made-3.result.now c.args.below)
    (sym c.made-2.ensures)
    (subst (λ z. LeftChanges (node_of c.args.node.now) before (made_in (tree_of c.args.left.now)) mid z c.args.below)
    (sym c.made-3.ensures) l)))

pub returns-in-Ok-clause-steps : goal.returns-in-Ok-clause-steps
returns-in-Ok-clause-steps g c before mid =
    subst
    (λ (y : List (Held Made)).
    (l : LeftChanges (node_of c.args.node.now) before (made_in (tree_of c.args.left.now)) mid y c.args.below)
    → c.ready_left.new.steps ≤ c.args.steps.now + left_cost c.args.node.now.op (rules_in y)
    (rules_in l.ready.coming)) c.made-3.ensures
    (subst
    (λ (z : List (Held Made)).
    (l : LeftChanges (node_of c.args.node.now) before z mid c.made-3.result.now c.args.below)
    → c.ready_left.new.steps ≤ c.args.steps.now + left_cost c.args.node.now.op (rules_in c.made-3.result.now)
    (rules_in l.ready.coming)) c.made-2.ensures
    (c.ready_left.ensures.steps before mid))

pub returns-in-Err-clause-steps : goal.returns-in-Err-clause-steps
returns-in-Err-clause-steps g c before mid =
    subst
    (λ (y : List (Held Made)).
    (l : LeftChanges (node_of c.args.node.now) before (made_in (tree_of c.args.left.now)) mid y c.args.below)
    → c.ready_left.new.steps ≤ c.args.steps.now + left_cost c.args.node.now.op (rules_in y)
    (rules_in l.ready.coming)) c.made-3.ensures
    (subst
    (λ (z : List (Held Made)).
    (l : LeftChanges (node_of c.args.node.now) before z mid c.made-3.result.now c.args.below)
    → c.ready_left.new.steps ≤ c.args.steps.now + left_cost c.args.node.now.op (rules_in c.made-3.result.now)
    (rules_in l.ready.coming)) c.made-2.ensures
    (c.ready_left.ensures.steps before mid))
