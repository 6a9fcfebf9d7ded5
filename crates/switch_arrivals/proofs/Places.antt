-- The first place at which a test passes is one of the list.
use Rattle.std.proofs.Common.{◌≡◌, ◌∙◌, ◌<◌, ◌++◌, ℕ, Bool, List, [], ◌∷◌, Option, Some, None}
use Rattle.std.proofs.Common.{ap, drop, get_or, length, nat_lt, refl, subst, sym, take}
use Rattle.std.specs.Prelude.{IfSome, position, slice_get, slice_set}
use Rattle.std.specs.List.{position_or_len, refill}
use Rattle.std.proofs.lemmas.Bool.{ltb-true}
use Rattle.std.proofs.lemmas.List.{length-set}
use Rattle.std.proofs.lemmas.Option.{cond_some, get_or_from_slice_get}

found_within : {A : Type 0} (p : A → Bool) (xs : List A) (i : ℕ) → position p xs ≡ Some i → i < length xs
found_within p xs i e =
    let s = cond_some (nat_lt (position_or_len p xs) (length xs)) (position_or_len p xs) i e in
    subst (λ n. n < length xs) s.1 (ltb-true (position_or_len p xs) (length xs) s.0)

-- where an answer is the first such place, it is within
pub is_within : {A : Type 0} (p : A → Bool) (xs : List A) (o : Option ℕ) → o ≡ position p xs
    → IfSome o (λ i. i < length xs)
is_within p xs None e = tt
is_within p xs (Some i) e = found_within p xs i (sym e)

take-front : {A : Type 0} (ws ys : List A) → take (length ws) (ws ++ ys) ≡ ws
take-front [] ys = refl
take-front (w ∷ ws) ys = ap (λ zs. w ∷ zs) (take-front ws ys)

-- what was lent of a list and given back is the list with what was written
refilled : {A : Type 0} (xs ws : List A) → length ws ≡ length xs → refill (length xs) xs ws ≡ ws
refilled xs ws h = ap (λ n. take n (ws ++ drop (length ws) xs)) (sym h) ∙ take-front ws (drop (length ws) xs)

pub put_back : {A : Type 0} (xs inside lent : List A) (i : ℕ) (y : A) → xs ≡ inside → lent ≡ inside
    → refill (length inside) inside (slice_set lent i y) ≡ slice_set xs i y
put_back xs inside lent i y v e =
    refilled inside (slice_set lent i y) (length-set lent i y ∙ ap length e)
    ∙ ap (λ zs. slice_set zs i y) (e ∙ sym v)

-- what was read of what was lent is the item at its place
pub there : {A : Type 0} (xs inside lent : List A) (i : ℕ) (x y : A) → xs ≡ inside → lent ≡ inside
    → x ≡ get_or lent i x → slice_get xs i ≡ Some y → x ≡ y
there xs inside lent i x y v e is at =
    is ∙ get_or_from_slice_get lent i y x (subst (λ zs. slice_get zs i ≡ Some y) (v ∙ sym e) at)

pub if_some : {A : Type 0} {p q : Type 0} (o : Option A) → IfSome o (λ x. p) → (p → q) → IfSome o (λ x. q)
if_some None h f = tt
if_some (Some x) h f = f h
