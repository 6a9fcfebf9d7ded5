-- The steps of a change, by the rules of the members before and after it.
use Rattle.std.specs.Prelude.{ℕ, ◌+◌, List, [], count_by, slice_get, sum_by}
use Rattle.list_change.specs.Coming.{came}
use Rattle.made_rules.specs.Coming.{is_rule}
use Rattle.op_compose.specs.declared.op.Op.{Op}
use Rattle.op_compose.specs.declared.op.Op.TheVariants.{Par, Seq, Over}
use Rattle.policy_expr.specs.Policy.{Policy, member, parallel, sequential, override}
use Rattle.policy_meaning.specs.Networks.{table_rules, table_size}
use Rattle.policy_meaning.specs.Rules.{rules_of}
use Rattle.policy_meaning.specs.declared.leaf.LeafTable.{LeafTable}
use Rattle.policy_meaning.specs.declared.rule.Rule.{Rule}
use Rattle.incr_compile.specs.Candidates.{could_meet}

-- one step for each rule that comes to the left, and one for each rule of the right that it could meet
abbrev pub left_steps : Op → List Rule → List Rule → ℕ
left_steps op rights come = sum_by (λ (a : Rule). 1 + count_by (could_meet op a) rights) come

-- the same for rules that come to the right
abbrev pub right_steps : Op → List Rule → List Rule → ℕ
right_steps op lefts come = sum_by (λ (b : Rule). 1 + count_by (λ (a : Rule). could_meet op a b) lefts) come

-- from the rules of the members before to those after
module _ (sizes : ℕ → ℕ) (before after : ℕ → List Rule) where
  -- the rules that an expression has more often than before
  abbrev pub come_to : Policy → List Rule
  come_to e = came is_rule (rules_of sizes before e) (rules_of sizes after e)

  -- the steps at an operator over two expressions
  abbrev pub steps_at : Op → Policy → Policy → ℕ
  steps_at op a b = left_steps op (rules_of sizes after b) (come_to a) + right_steps op (rules_of sizes after a)
      (come_to b)

  -- the steps at all operators of an expression
  abbrev pub steps_of : Policy → ℕ
  steps_of (member i) = 0
  steps_of (parallel a b) = steps_of a + steps_of b + steps_at Par a b
  steps_of (sequential a b) = steps_of a + steps_of b + steps_at Seq a b
  steps_of (override a b) = steps_of a + steps_of b + steps_at Over a b

-- those from scratch, where each rule comes
abbrev pub steps_from_scratch : List LeafTable → List ℕ → Policy → ℕ
steps_from_scratch tables ports e =
    steps_of (λ i. table_size (slice_get tables i)) (λ i. []) (λ i. table_rules ports (slice_get tables i)) e
