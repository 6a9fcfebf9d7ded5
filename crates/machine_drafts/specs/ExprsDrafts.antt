-- What an event makes of the expressions of the virtual switches, beside them as they stand.
use Rattle.std.specs.Prelude.{◌≡◌, Result, Ok, Err, List, fold}
use Rattle.policy_expr.specs.Policy.{Policy, policy_of}
use Rattle.policy_expr.specs.declared.expr.Expr.{Expr}
use Rattle.policy_expr.specs.declared.fault.ExprFault.{ExprFault}
use Rattle.machine_meaning.specs.Replacing.{exprs_with}
use Rattle.machine_drafts.specs.declared.exprs_draft.Replaced.{Replaced}

-- the expressions as they stand, and as the event leaves them so far
pub record ExprsOf : Type 0 where
  pub base : List Policy
  pub now : List Policy

-- the expressions, of which one is replaced
abbrev pub with_replaced : List Policy → Replaced → List Policy
with_replaced exprs r = exprs_with r.v (policy_of r.expr) exprs

-- of which several are, one after the other
abbrev pub replaced_in : List Replaced → List Policy → List Policy
replaced_in replaced exprs = fold with_replaced exprs replaced

-- what is read of a text
abbrev pub IsReadAs : Result Policy ExprFault → Result Expr ExprFault → Type 0
IsReadAs given (Ok expr) = given ≡ Ok (policy_of expr)
IsReadAs given (Err fault) = given ≡ Err fault
