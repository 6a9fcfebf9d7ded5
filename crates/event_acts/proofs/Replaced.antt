-- Which refusal a text is answered that would be an expression, and which a fault is.
use Rattle.std.proofs.Common.{◌≡◌, ◌≢◌, ◌⊎◌, inl, inr, Option, Some, Result, Err, refl, sym, ap}
use Rattle.policy_expr.specs.Outcomes.{IsFaultOf}
use Rattle.policy_expr.specs.Policy.{Policy}
use Rattle.policy_expr.specs.declared.fault.ExprFault.{ExprFault}
use Rattle.policy_expr.specs.declared.fault.ExprFault.TheVariants as exprs
use Rattle.policies.specs.declared.fault.PolicyFault.{PolicyFault}
use Rattle.policies.specs.declared.fault.PolicyFault.TheVariants as faults
use Rattle.machine_meaning.specs.Replacing.{width_refusal}

-- a fault that isn't want of memory is the one that is wanted
pub fault_wanted : (fault : PolicyFault) (wanted : Option PolicyFault) → fault ≢ faults.Memory
    → (fault ≡ faults.Memory) ⊎ (wanted ≡ Some fault) → width_refusal (Some fault) ≡ width_refusal wanted
fault_wanted fault wanted other (inl e) = absurd (other e)
fault_wanted fault wanted other (inr e) = sym (ap width_refusal e)

-- and so with the fault of a text
pub fault_read : (given : Result Policy ExprFault) (fault : ExprFault) → fault ≢ exprs.Memory → IsFaultOf given fault
    → given ≡ Err fault
fault_read given exprs.Memory other h = absurd (other refl)
fault_read given (exprs.Syntax at) other h = h
fault_read given (exprs.Unknown name) other h = h
fault_read given (exprs.Twice name) other h = h
fault_read given (exprs.Unused name) other h = h
fault_read given (exprs.TooMany leaves) other h = h
fault_read given (exprs.ParallelLeft name) other h = h
