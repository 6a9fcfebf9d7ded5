-- Values that are there, and what is made of them.
use Rattle.std.proofs.Common.{◌≡◌, refl, Option, Some, None}
use Rattle.std.specs.Prelude.{option_and_then, option_map}

-- a first value that is there, and what is made of it
pub record Through {A B : Type 0} (f : A → Option B) (o : Option A) (y : B) : Type 0 where
  pub via : A
  pub first : o ≡ Some via
  pub second : f via ≡ Some y

pub through : {A B : Type 0} (f : A → Option B) (o : Option A) (y : B) → option_and_then f o ≡ Some y → Through f o y
through f None y e = absurd (cc)
through f (Some x) y e = record { via = x; first = refl; second = e }

pub record Mapped {A B : Type 0} (f : A → B) (o : Option A) (y : B) : Type 0 where
  pub via : A
  pub first : o ≡ Some via
  pub second : f via ≡ y

pub mapped : {A B : Type 0} (f : A → B) (o : Option A) (y : B) → option_map f o ≡ Some y → Mapped f o y
mapped f None y e = absurd (cc)
mapped f (Some x) y e = record { via = x; first = refl; second = cc }
