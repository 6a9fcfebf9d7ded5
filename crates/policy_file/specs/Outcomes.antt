-- What was read of a key.
use Rattle.std.specs.Prelude.{ℕ, List, Option, Some, None, Result, Ok, Err}
use Rattle.policies.specs.declared.fault.PolicyFault.{PolicyFault}
use Rattle.policies.specs.declared.fault.PolicyFault.TheVariants as faults
use Rattle.policy_file.specs.declared.section.Section.{Section}
use Rattle.policy_file.specs.Sections.{key_name}

-- what was read of a key, or the fault that it can't be so
abbrev pub found : {A : Type 0} → Section → List ℕ → Option A → Result A PolicyFault
found section key None = Err (faults.Value (key_name section key))
found section key (Some x) = Ok x
