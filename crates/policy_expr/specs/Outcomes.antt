-- What a call answered, against what reading gives.
use Rattle.std.specs.Prelude.{◌≡◌, ℕ, Option, Some, Result, Err}
use Rattle.std.specs.Result.{result_map_both}
use Rattle.policy_expr.specs.declared.fault.ExprFault.{ExprFault}
use Rattle.policy_expr.specs.declared.fault.ExprFault.TheVariants.{Syntax, Unknown, Twice, Unused, TooMany}
use Rattle.policy_expr.specs.declared.fault.ExprFault.TheVariants.{ParallelLeft, Memory}
use Rattle.policy_expr.specs.Policy.{Policy}
use Rattle.policy_expr.specs.Reading.{Read}

-- the fault is such, or memory was wanting, which may come in place of anything
abbrev pub OrMemory : (ExprFault → Type 0) → ExprFault → Type 0
OrMemory P Memory = Unit {0}
OrMemory P (Syntax at) = P (Syntax at)
OrMemory P (Unknown name) = P (Unknown name)
OrMemory P (Twice name) = P (Twice name)
OrMemory P (Unused name) = P (Unused name)
OrMemory P (TooMany leaves) = P (TooMany leaves)
OrMemory P (ParallelLeft name) = P (ParallelLeft name)

-- the fault that a text gives
abbrev pub IsFaultOf : Result Policy ExprFault → ExprFault → Type 0
IsFaultOf given = OrMemory (λ fault. given ≡ Err fault)

-- the fault for which what was read is refused
abbrev pub IsRefusal : Option ExprFault → ExprFault → Type 0
IsRefusal refusal = OrMemory (λ fault. refusal ≡ Some fault)

-- the fault of syntax at the place where signs end
abbrev pub IsFaultOfRun : Result Read ℕ → ExprFault → Type 0
IsFaultOfRun result = OrMemory (λ fault. result_map_both (λ read. read) Syntax result ≡ Err fault)
