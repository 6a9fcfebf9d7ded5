-- What stands at a place of a list that is made of others.
use Rattle.std.proofs.Common.{◌≡◌, ℕ, zero, suc, ◌+◌, ◌<◌, ◌≤◌, Bool, true, false, List, [], ◌∷◌, length, get_or}
use Rattle.std.proofs.Common.{Option, Some, None, refl, ap, ◌∙◌, sym, subst, arith, ltb-true, ltb-false}
use Rattle.std.specs.Prelude.{nat_lt, slice_get, option_map, zip}
use Rattle.std.specs.List.{enumerate_from}
use Rattle.std.proofs.lemmas.List.{get_or_default}

-- an item with its number
pub at-enumerated : {X : Type 0} (n i k : ℕ) (xs : List X) → n + i ≡ k
    → slice_get (enumerate_from n xs) i ≡ option_map (λ x. (k, x)) (slice_get xs i)
at-enumerated n i k [] e = refl
at-enumerated n zero k (x ∷ xs) e = let same : n ≡ k = omega arith in ap (λ z. Some (z, x)) same
at-enumerated n (suc i) k (x ∷ xs) e = at-enumerated (n + 1) i k xs (omega arith)

-- two items
abbrev pub two : {X Y : Type 0} → Option X → Option Y → Option (X × Y)
two (Some x) (Some y) = Some (x, y)
two (Some x) None = None
two None o = None

none-first : {X Y : Type 0} (o : Option X) → two {Y = Y} o None ≡ None
none-first None = refl
none-first (Some x) = refl

pub at-zipped : {X Y : Type 0} (xs : List X) (ys : List Y) (i : ℕ)
    → slice_get (zip xs ys) i ≡ two (slice_get xs i) (slice_get ys i)
at-zipped [] ys i = refl
at-zipped {Y = Y} (x ∷ xs) [] i = sym (none-first {Y = Y} (slice_get (x ∷ xs) i))
at-zipped (x ∷ xs) (y ∷ ys) zero = refl
at-zipped (x ∷ xs) (y ∷ ys) (suc i) = at-zipped xs ys i

-- what holds of the items so far, and of one more
pub below-next : {X : Type 0} (P : X → Type 0) (xs : List X) (i : ℕ) (x : X) → i < length xs → x ≡ get_or xs i x → P x
    → ((k : ℕ) (d : X) → k < i → P (get_or xs k d)) → (k : ℕ) (d : X) → k < i + 1 → P (get_or xs k d)
below-next P xs i x lt is p all k d l = by (nat_lt k i) refl
  where
    by : (b : Bool) → nat_lt k i ≡ b → P (get_or xs k d)
    by true e = all k d (ltb-true k i e)
    by false e =
        let le : i ≤ k = ltb-false k i e in
        let same : i ≡ k = omega arith in
        subst (λ j. P (get_or xs j d)) same (subst P (is ∙ get_or_default xs i x d lt) p)
