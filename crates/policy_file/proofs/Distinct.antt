-- No two of a list are the same: as many are left where each is counted once.
use Rattle.std.proofs.Common.{◌≡◌, ◌==◌, ◌&&◌, ◌||◌, ◌≤◌, ℕ, suc, Bool, true, false, not, cond, List, [], ◌∷◌, length}
use Rattle.std.proofs.Common.{map, refl, arith}
use Rattle.std.specs.List.{list_any}
use Rattle.std.specs.Ordering.{eq_by_cmp, nat_cmp}
use Rattle.std.specs.Set.{distinct_count, unique_keys}
use Rattle.std.proofs.lemmas.Bool.Decides.{nat_tests}
use Rattle.std.proofs.lemmas.Map.Made.{distinct_count-le}
use Rattle.policy_file.specs.Values.{are_distinct}

counted : {A : Type 0} (m d : Bool) (us : List A) (x : A) (n : ℕ) → length us ≤ n → (length us == n) ≡ d
    → (length (cond m us (x ∷ us)) == suc n) ≡ (not m && d)
counted true d us x n le h = grind (arith, nat_tests)
counted false d us x n le h = grind (arith, nat_tests)

pub counted_once : {A : Type 0} (same : A → A → Bool) (xs : List A)
    → (distinct_count same xs == length xs) ≡ are_distinct same xs
counted_once same [] = refl
counted_once same (x ∷ xs) = counted (list_any (same x) xs) (are_distinct same xs) (unique_keys same xs) x (length xs)
    (distinct_count-le same xs) (counted_once same xs)

-- tests of what items stand for
any_shown : {A B : Type 0} (f : A → B) (p : A → Bool) (q : B → Bool) → ((x : A) → p x ≡ q (f x)) → (xs : List A)
    → list_any p xs ≡ list_any q (map f xs)
any_shown f p q h [] = refl
any_shown f p q h (x ∷ xs) = λ i. h x i || any_shown f p q h xs i

pub distinct_shown : {A B : Type 0} (f : A → B) (same : A → A → Bool) (other : B → B → Bool)
    → ((x y : A) → same x y ≡ other (f x) (f y)) → (xs : List A) → are_distinct same xs ≡ are_distinct other (map f xs)
distinct_shown f same other h [] = refl
distinct_shown f same other h (x ∷ xs) = λ i. not (any_shown f (same x) (other (f x)) (h x) xs i) && distinct_shown f
    same other h xs i

-- numbers that compare as equal
same_numbers : (a b : ℕ) → eq_by_cmp nat_cmp a b ≡ (a == b)
same_numbers a b = grind (arith, nat_tests)

pub distinct_numbers : (ns : List ℕ) → are_distinct (eq_by_cmp nat_cmp) ns ≡ are_distinct (λ a b. a == b) ns
distinct_numbers [] = refl
distinct_numbers (n ∷ ns) = λ i. not (list_any (λ m. same_numbers n m i) ns) && distinct_numbers ns i
