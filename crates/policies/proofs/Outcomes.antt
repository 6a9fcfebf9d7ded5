-- What stands where steps and checks find no fault.
use Rattle.std.proofs.Common.{◌≡◌, ◌⊎◌, inl, inr, Option, Some, None, Result, Ok, Err, refl}
use Rattle.policies.specs.declared.fault.PolicyFault.{PolicyFault}
use Rattle.policies.specs.Outcomes.{then_do, unless}

-- a first step that answered, and what the next made of it
pub record AreDone {A B : Type 0} (r : Result A PolicyFault) (next : A → Result B PolicyFault) (y : B) : Type 0 where
  pub value : A
  pub first : r ≡ Ok value
  pub second : next value ≡ Ok y

pub done : {A B : Type 0} (r : Result A PolicyFault) (next : A → Result B PolicyFault) (y : B) → then_do r next ≡ Ok y
    → AreDone r next y
done (Ok x) next y e = record { value = x; first = refl; second = e }
done (Err fault) next y e = absurd (cc)

pub record NoneBefore {A : Type 0} (fault : Option PolicyFault) (outcome : Result A PolicyFault) (x : A) : Type 0 where
  pub none : fault ≡ None
  pub rest : outcome ≡ Ok x

pub none_before : {A : Type 0} (fault : Option PolicyFault) (outcome : Result A PolicyFault) (x : A)
    → unless fault outcome ≡ Ok x → NoneBefore fault outcome x
none_before None outcome x e = record { none = refl; rest = e }
none_before (Some fault) outcome x e = absurd (cc)

-- where there is no fault, a fault that is answered is want of memory
pub only_memory : {E : Type 0} (memory fault : E) (o : Option E) → (fault ≡ memory) ⊎ (o ≡ Some fault) → o ≡ None
    → fault ≡ memory
only_memory memory fault o (inl m) e = m
only_memory memory fault None (inr s) e = absurd (cc)
only_memory memory fault (Some x) (inr s) e = absurd (cc)
