-- The words for refusals are ASCII.
use Rattle.std.proofs.Common.{rules, ◌<◌, codes}
use Rattle.std.proofs.lemmas.List.Elements.{All-from_recursion}
use Rattle.cv_io.specs.Text.{IsAsciiText}
use Rattle.policy_expr.specs.declared.fault.ExprFault.{ExprFault}
use Rattle.policy_expr.specs.declared.fault.ExprFault.TheVariants as faults
use Rattle.policies.specs.Terse.{expr_kind}

pub ascii_kind : (fault : ExprFault) → IsAsciiText (expr_kind fault)
ascii_kind (faults.Syntax at) = All-from_recursion (λ b. b < 128) (codes "syntax") (search rules)
ascii_kind (faults.Unknown name) = All-from_recursion (λ b. b < 128) (codes "unknown") (search rules)
ascii_kind (faults.Twice name) = All-from_recursion (λ b. b < 128) (codes "twice") (search rules)
ascii_kind (faults.Unused name) = All-from_recursion (λ b. b < 128) (codes "unused") (search rules)
ascii_kind (faults.TooMany leaves) = All-from_recursion (λ b. b < 128) (codes "toomany") (search rules)
ascii_kind (faults.ParallelLeft name) = All-from_recursion (λ b. b < 128) (codes "parallelleft") (search rules)
ascii_kind faults.Memory = All-from_recursion (λ b. b < 128) (codes "memory") (search rules)

pub ascii_width : IsAsciiText (codes "toowide")
ascii_width = All-from_recursion (λ b. b < 128) (codes "toowide") (search rules)
