-- What was read of a key, where there is no fault.
use Rattle.std.proofs.Common.{◌≡◌, List, ℕ, Option, Some, None, Ok}
use Rattle.policy_file.specs.declared.section.Section.{Section}
use Rattle.policy_file.specs.Outcomes.{found}

pub found_some : {A : Type 0} (s : Section) (k : List ℕ) (o : Option A) (x : A) → found s k o ≡ Ok x → o ≡ Some x
found_some s k (Some y) x e = cc
found_some s k None x e = absurd (cc)
