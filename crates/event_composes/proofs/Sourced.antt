-- Switches are composed of what comes from a source.
use Rattle.std.proofs.Common.{◌≡◌, ℕ, zero, suc, ◌+◌, ◌<◌, ◌≤◌, true, false, List, [], ◌∷◌, set, refl, arith}
use Rattle.std.specs.Prelude.{◌==◌, slice_get}
use Rattle.std.proofs.lemmas.Bool.Decides.{nat_tests}
use Rattle.event_composes.specs.Sources.{CanGive}
use Rattle.event_composes.specs.declared.sources.Source.{Source}
use Rattle.event_composes.specs.declared.sources.Source.TheVariants.{Anew, Kept}

-- where one item is set, the others stay
pub others_stay : {A : Type 0} (xs : List A) (n : ℕ) (y : A) (m : ℕ) → (m == n) ≡ false
    → slice_get (set xs n y) m ≡ slice_get xs m
others_stay [] n y m h = refl
others_stay (x ∷ xs) zero y zero h = let same : (zero == zero) ≡ true = refl in absurd (cc)
others_stay (x ∷ xs) zero y (suc m) h = refl
others_stay (x ∷ xs) (suc n) y zero h = refl
others_stay (x ∷ xs) (suc n) y (suc m) h =
    let less : (m == n) ≡ false = grind (arith, nat_tests) in
    others_stay xs n y m less

-- a later number is another
pub later_apart : (n m : ℕ) → n + 1 ≤ m → (m == n) ≡ false
later_apart n m h = grind (arith, nat_tests)

-- where so many switches can be asked for, each of them can be
pub can_give_one : (s : Source) (count n : ℕ) → n < count → CanGive s count → CanGive s (n + 1)
can_give_one (Anew s) count n h can = can
can_give_one (Kept c turned) count n h can = omega (arith, h, can)
