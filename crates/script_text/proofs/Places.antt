-- The place of a byte among others.
use Rattle.std.proofs.Common.{◌≡◌, ℕ, zero, suc, ◌+◌, ◌<◌, ◌≤◌, Bool, true, false, cond, List, [], ◌∷◌, ◌++◌, length}
use Rattle.std.proofs.Common.{get_or, take, drop, Option, Some, None, refl, sym, ap, subst, ◌∙◌, inl, inr, arith}
use Rattle.std.specs.Prelude.{◌&&◌, ◌||◌, ◌==◌, ◌⊎◌, not, nat_lt, position}
use Rattle.std.specs.List.{list_all, prefix_len}
use Rattle.std.proofs.lemmas.Bool.{eq-eqb, eqb-true, le-ltb, lt-ltb, ltb-true}
use Rattle.std.proofs.lemmas.List.{drop_more, length-append, take-append-drop}
use Rattle.std.proofs.lemmas.List.Sums.{prefix_len_stops}
use Rattle.std.proofs.lemmas.Option.{cond_some}
use Rattle.script_text.proofs.Passed.{both}

-- how many bytes stand before the first that is c
abbrev pub before : ℕ → List ℕ → ℕ
before c xs = prefix_len (λ x. not (x == c)) xs

-- none of the bytes is c
abbrev pub lacks : ℕ → List ℕ → Bool
lacks c xs = list_all (λ x. not (x == c)) xs

not_false : (b : Bool) → not b ≡ false → b ≡ true
not_false true e = refl
not_false false e = absurd cc

-- what stands before and behind a byte that was found
pub parted : (c : ℕ) (xs : List ℕ) (at : ℕ) → position (λ x. x == c) xs ≡ Some at
    → xs ≡ take at xs ++ (c ∷ drop (at + 1) xs)
parted c xs at found =
    let p = cond_some (nat_lt (before c xs) (length xs)) (before c xs) at found in
    let lt : before c xs < length xs = ltb-true _ _ p.0 in
    let is : get_or xs (before c xs) 0 ≡ c =
    eqb-true _ _ (not_false (get_or xs (before c xs) 0 == c) (prefix_len_stops (λ (x : ℕ). not (x == c)) xs 0 lt))
    in
    let whole : xs ≡ take (before c xs) xs ++ (get_or xs (before c xs) 0 ∷ drop (before c xs + 1) xs) =
    sym (take-append-drop (before c xs) xs)
    ∙ ap (λ (ys : List ℕ). take (before c xs) xs ++ ys) (drop_more xs (before c xs) 0 lt) in
    whole ∙ (λ i. take (p.1 i) xs ++ (is i ∷ drop (p.1 i + 1) xs))

-- the first c stands behind bytes that lack it
before_is : (c : ℕ) (a b : List ℕ) → lacks c a ≡ true → before c (a ++ (c ∷ b)) ≡ length a
before_is c [] b lack = ap (λ (t : Bool). cond (not t) (1 + before c b) 0) (eq-eqb c c refl)
before_is c (x ∷ a) b lack =
    let p = both (not (x == c)) (lacks c a) lack in
    ap (λ (t : Bool). cond t (1 + before c (a ++ (c ∷ b))) 0) p.0 ∙ omega (arith, before_is c a b p.1)

pub found_behind : (c : ℕ) (a b : List ℕ) → lacks c a ≡ true → position (λ x. x == c) (a ++ (c ∷ b)) ≡ Some (length a)
found_behind c a b lack =
    let n = before_is c a b lack in
    let within : nat_lt (before c (a ++ (c ∷ b))) (length (a ++ (c ∷ b))) ≡ true =
    lt-ltb _ _ (omega (arith, n, length-append a (c ∷ b))) in
    (λ i. cond (within i) (Some (before c (a ++ (c ∷ b)))) None) ∙ ap (λ (k : ℕ). Some k) n

-- bytes that lack c have no place of it
before_all : (c : ℕ) (xs : List ℕ) → lacks c xs ≡ true → before c xs ≡ length xs
before_all c [] lack = refl
before_all c (x ∷ xs) lack =
    let p = both (not (x == c)) (lacks c xs) lack in
    ap (λ (t : Bool). cond t (1 + before c xs) 0) p.0 ∙ omega (arith, before_all c xs p.1)

pub not_found : (c : ℕ) (xs : List ℕ) → lacks c xs ≡ true → position (λ x. x == c) xs ≡ None
not_found c xs lack =
    ap (λ (t : Bool). cond t (Some (before c xs)) None) (le-ltb _ _ (omega (arith, before_all c xs lack)))

-- a test that follows from another, byte by byte
pub weaker : (p q : ℕ → Bool) → ((c : ℕ) → p c ≡ true → q c ≡ true) → (xs : List ℕ) → list_all p xs ≡ true
    → list_all q xs ≡ true
weaker p q follows [] all = refl
weaker p q follows (x ∷ xs) all =
    let h = both (p x) (list_all p xs) all in
    λ i. follows x h.0 i && weaker p q follows xs h.1 i
