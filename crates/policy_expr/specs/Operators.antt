-- The program's operators.
use Rattle.policy_expr.specs.declared.operator.Operator.{Operator}
use Rattle.policy_expr.specs.declared.operator.Operator.TheVariants.{Par, Seq, Over}
use Rattle.policy_expr.specs.Policy.{Policy, parallel, sequential, override}

-- the composition that an operator stands for
abbrev pub operator_of : Operator → Policy → Policy → Policy
operator_of Par a b = parallel a b
operator_of Seq a b = sequential a b
operator_of Over a b = override a b
