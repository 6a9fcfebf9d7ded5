-- What a call answers, against what its definition gives.
use Rattle.std.specs.Prelude.{◌≡◌, ◌⊎◌, Option, Some, None, Result, Ok, Err}
use Rattle.policies.specs.declared.fault.PolicyFault.{PolicyFault}
use Rattle.policies.specs.declared.fault.PolicyFault.TheVariants as faults

-- the call gives what the definition gives, or memory was wanting
abbrev pub Gives : {A : Type 0} → Result A PolicyFault → Result A PolicyFault → Type 0
Gives wanted (Ok x) = wanted ≡ Ok x
Gives wanted (Err fault) = (fault ≡ faults.Memory) ⊎ (wanted ≡ Err fault)

-- the fault that the definition gives, or want of memory
abbrev pub IsFaultOf : {A : Type 0} → Result A PolicyFault → PolicyFault → Type 0
IsFaultOf wanted fault = (fault ≡ faults.Memory) ⊎ (wanted ≡ Err fault)

-- a call's outcome with a value in place of none
abbrev pub with_value : {A : Type 0} → A → Result (Unit {0}) PolicyFault → Result A PolicyFault
with_value x (Ok _) = Ok x
with_value x (Err fault) = Err fault

-- the next step, if there is no fault yet
abbrev pub then_do : {A B : Type 0} → Result A PolicyFault → (A → Result B PolicyFault) → Result B PolicyFault
then_do (Ok x) next = next x
then_do (Err fault) next = Err fault

-- the first fault is that, if there is one
abbrev pub unless : {A : Type 0} → Option PolicyFault → Result A PolicyFault → Result A PolicyFault
unless None outcome = outcome
unless (Some fault) outcome = Err fault
