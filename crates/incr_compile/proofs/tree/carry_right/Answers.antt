use Rattle.std.proofs.Common.{subst, sym, ◌+◌, ◌≤◌, List}
use Rattle.rule_ancestry.specs.Holding.{Held}
use Rattle.made_rules.specs.Rules.{rules_in}
use Rattle.made_rules.specs.declared.made.Made.{Made}
use Rattle.incr_compile.specs.Candidates.{right_cost}
use Rattle.incr_compile.specs.Nodes.{IsCarried, RightChanges, made_by, node_of}
use Rattle.incr_compile.specs.Trees.{made_in, tree_of}
use Rattle.incr_compile.proofs.tree.carry_right.Goals as goal

pub returns-in-Ok-clause-carried : goal.returns-in-Ok-clause-carried
returns-in-Ok-clause-carried g c before mid l =
    subst (λ z. (x : List (Held Made))
    × IsCarried c.args.node.now.made c.ready_right.new.self.made x c.in-Ok.change
    (made_by (node_of c.args.node.now) (rules_in z) (rules_in mid))) c.made-2.ensures
    (c.in-Ok.ensures.ready before mid
    (subst (λ z. RightChanges (node_of c.args.node.now) before z mid c.made-2.result.now c.args.below)
    (sym c.made-3.ensures)
    (subst (λ z. RightChanges (node_of c.args.node.now) before (made_in (tree_of c.args.right.now)) mid z c.args.below)
    (sym c.made-2.ensures) l)))

pub returns-in-Ok-clause-steps : goal.returns-in-Ok-clause-steps
returns-in-Ok-clause-steps g c before mid =
    subst
    (λ (y : List (Held Made)).
    (l : RightChanges (node_of c.args.node.now) before (made_in (tree_of c.args.right.now)) mid y c.args.below)
    → c.ready_right.new.steps ≤ c.args.steps.now + right_cost c.args.node.now.op (rules_in y)
    (rules_in l.ready.coming)) c.made-2.ensures
    (subst
    (λ (z : List (Held Made)).
    (l : RightChanges (node_of c.args.node.now) before z mid c.made-2.result.now c.args.below)
    → c.ready_right.new.steps ≤ c.args.steps.now + right_cost c.args.node.now.op (rules_in c.made-2.result.now)
    (rules_in l.ready.coming)) c.made-3.ensures
    (c.ready_right.ensures.steps before mid))

pub returns-in-Err-clause-steps : goal.returns-in-Err-clause-steps
returns-in-Err-clause-steps g c before mid =
    subst
    (λ (y : List (Held Made)).
    (l : RightChanges (node_of c.args.node.now) before (made_in (tree_of c.args.right.now)) mid y c.args.below)
    → c.ready_right.new.steps ≤ c.args.steps.now + right_cost c.args.node.now.op (rules_in y)
    (rules_in l.ready.coming)) c.made-2.ensures
    (subst
    (λ (z : List (Held Made)).
    (l : RightChanges (node_of c.args.node.now) before z mid c.made-2.result.now c.args.below)
    → c.ready_right.new.steps ≤ c.args.steps.now + right_cost c.args.node.now.op (rules_in c.made-2.result.now)
    (rules_in l.ready.coming)) c.made-3.ensures
    (c.ready_right.ensures.steps before mid))
