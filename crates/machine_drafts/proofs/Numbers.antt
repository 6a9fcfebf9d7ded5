-- Loops over the numbers of the items of a list.
use Rattle.std.proofs.Common.{◌≡◌, ◌∙◌, ℕ, zero, suc, ◌+◌, ◌<◌, ◌≤◌, Bool, List, [], ◌∷◌, ◌++◌, length, get_or, take}
use Rattle.std.proofs.Common.{drop, map, sym, ap, arith, append-nil}
use Rattle.std.specs.Prelude.{filter, fold, if◌then◌else◌}
use Rattle.std.specs.List.{enumerate_from}
use Rattle.std.proofs.lemmas.List.{at_drop_all, at_drop_more, drop_all, length-map, map_more, take_all}
use Rattle.std.proofs.lemmas.List.FromFn.{length-enumerate_from}
use Rattle.switch_meaning.proofs.Writing.{kept_more}
use Rattle.machine_meaning.specs.Lists.{places}

pub length-places : {A : Type 0} (xs : List A) → length (places xs) ≡ length xs
length-places xs = length-map (enumerate_from 0 xs) (λ x. x.0) ∙ length-enumerate_from 0 xs

number-from : {A : Type 0} (n : ℕ) (xs : List A) (i d : ℕ) → i < length xs
    → get_or (map (λ (x : ℕ × A). x.0) (enumerate_from n xs)) i d ≡ n + i
number-from n [] i d lt = absurd (omega arith)
number-from n (x ∷ xs) zero d lt = omega arith
number-from n (x ∷ xs) (suc i) d lt = let later = number-from (n + 1) xs i d (omega arith) in omega arith

number-at : {A : Type 0} (xs : List A) (i : ℕ) → i < length xs → i ≡ get_or (places xs) i i
number-at xs i lt = let there = number-from 0 xs i i lt in omega arith

number-within : {A : Type 0} (xs : List A) (i : ℕ) → i < length xs → i < length (places xs)
number-within xs i lt = let long = length-places xs in omega arith

-- one number more is kept, if it passes
pub more_kept : {A : Type 0} (test : ℕ → Bool) (xs : List A) (i : ℕ) (old new all : List ℕ) → i < length xs
    → new ≡ old ++ (if test i then i ∷ [] else [])
    → old ++ filter test (drop i (places xs)) ≡ all → new ++ filter test (drop (i + 1) (places xs)) ≡ all
more_kept test xs i old new all lt = kept_more test (places xs) i i old new all (number-within xs i lt)
    (number-at xs i lt)

-- none is left
pub all_kept : {A : Type 0} (test : ℕ → Bool) (xs : List A) (i : ℕ) (old all : List ℕ) → length xs ≤ i
    → old ++ filter test (drop i (places xs)) ≡ all → old ≡ all
all_kept test xs i old all end e =
    let long = length-places xs in
    sym (append-nil old) ∙ (ap (λ ns. old ++ filter test ns) (sym (drop_all i (places xs) (omega arith))) ∙ e)

-- what is made of one number more
pub more_made : {A B : Type 0} (f : ℕ → B) (xs : List A) (i : ℕ) (old new : List B) → i < length xs
    → new ≡ old ++ f i ∷ []
    → old ≡ map f (take i (places xs)) → new ≡ map f (take (i + 1) (places xs))
more_made f xs i old new lt added e =
    added ∙ (ap (λ ys. ys ++ f i ∷ []) e ∙ (ap (λ n. map f (take i (places xs)) ++ f n ∷ []) (number-at xs i lt)
    ∙ sym (map_more f (places xs) i i (number-within xs i lt))))

-- of all of them
pub all_made : {A B : Type 0} (f : ℕ → B) (xs : List A) (i : ℕ) (all : List B) → length xs ≤ i
    → all ≡ map f (take i (places xs)) → all ≡ map f (places xs)
all_made f xs i all end e = let long = length-places xs in e ∙ ap (map f) (take_all i (places xs) (omega arith))

-- one number more of a fold
pub fold_next : {A S : Type 0} (f : S → ℕ → S) (s : S) (xs : List A) (n : ℕ) → n < length xs
    → fold f (f s n) (drop (n + 1) (places xs)) ≡ fold f s (drop n (places xs))
fold_next f s xs n lt =
    sym (at_drop_more (fold f s) (places xs) n n (number-within xs n lt)
    ∙ (λ j. fold f (f s (sym (number-at xs n lt) j)) (drop (n + 1) (places xs))))

-- none is left
pub fold_end : {A S : Type 0} (f : S → ℕ → S) (s : S) (xs : List A) (n : ℕ) → length xs ≤ n
    → fold f s (drop n (places xs)) ≡ s
fold_end f s xs n end = let long = length-places xs in at_drop_all (fold f s) (places xs) n (omega arith)
