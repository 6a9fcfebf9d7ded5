-- Tests that pass or fail together.
use Rattle.std.proofs.Common.{◌≡◌, Bool, true, false, ◌&&◌, ◌||◌, Some, refl}
use Rattle.std.specs.Prelude.{not}

pub true_not_false : true ≡ false → ⊥
true_not_false e = cc

pub split_and : (a b : Bool) → (a && b) ≡ true → (a ≡ true) × (b ≡ true)
split_and true true e = (refl, refl)
split_and true false e = cc
split_and false b e = cc

pub join_and : (a b : Bool) → a ≡ true → b ≡ true → (a && b) ≡ true
join_and a b e f = rw (e, f)

pub split_or : (a b : Bool) → (a || b) ≡ false → (a ≡ false) × (b ≡ false)
split_or true b e = cc
split_or false b e = (refl, e)

pub join_or : (a b : Bool) → a ≡ false → b ≡ false → (a || b) ≡ false
join_or a b e f = rw (e, f)

pub or_right : (a b : Bool) → b ≡ true → (a || b) ≡ true
or_right true b e = refl
or_right false b e = e

-- a test that can't pass fails
pub fails : (b : Bool) → (b ≡ true → ⊥) → b ≡ false
fails true f = absurd (f refl)
fails false f = refl

pub not_false : (b : Bool) → not b ≡ false → b ≡ true
not_false true e = refl
not_false false e = cc

pub some_injective : {A : Type 0} {x y : A} → Some x ≡ Some y → x ≡ y
some_injective e = cc
