-- Lists that a change leaves as they are.
use Rattle.std.proofs.Common.{◌≡◌, ℕ, suc, Bool, true, false, List, [], ◌∷◌, Result, Ok, Err, length, refl, ap}
use Rattle.std.proofs.Common.{sym, ◌∙◌, arith}
use Rattle.std.specs.Prelude.{◌==◌, ◌||◌, ◌&&◌, IfOk, filter, map, not, if◌then◌else◌}
use Rattle.std.specs.List.{list_any}
use Rattle.std.proofs.lemmas.Bool.{eqb-true, or_parts}
use Rattle.waitings.specs.Waitings.{has_part_of, is_done, is_of_barriers, is_part, waits_for, waits_for_barrier}
use Rattle.waitings.specs.Waitings.{without_barrier, without_part, without_parts_of}
use Rattle.waitings.specs.declared.state.Part.{Part}
use Rattle.waitings.specs.declared.state.Waiting.{Waiting}

-- where no item passes all are left
pub filter_none : {A : Type 0} (p : A → Bool) (xs : List A) → list_any p xs ≡ false → filter (λ x. not (p x)) xs ≡ xs
filter_none p [] h = refl
filter_none p (x ∷ xs) h =
    let parts = or_parts (p x) (list_any p xs) h in
    let left = filter (λ y. not (p y)) xs in
    ap (λ b. if not b then x ∷ left else left) parts.0 ∙ ap (λ ys. x ∷ ys) (filter_none p xs parts.1)

-- where no item passes that is changed all are as they were
pub map_none : {A : Type 0} (p : A → Bool) (f : A → A) → ((x : A) → p x ≡ false → f x ≡ x) → (xs : List A)
    → list_any p xs ≡ false → map f xs ≡ xs
map_none p f same [] h = refl
map_none p f same (x ∷ xs) h =
    let parts = or_parts (p x) (list_any p xs) h in
    ap (λ y. y ∷ map f xs) (same x parts.0) ∙ ap (λ ys. x ∷ ys) (map_none p f same xs parts.1)

cons-nil : {A : Type 0} {x : A} {xs : List A} → x ∷ xs ≡ [] → ⊥
cons-nil e = cc

-- where none is kept, none passes
none_kept : {A : Type 0} (p : A → Bool) (xs : List A) → filter p xs ≡ [] → list_any p xs ≡ false
none_kept p [] h = refl
none_kept {A} p (x ∷ xs) h = by (p x) h (none_kept p xs)
  where
    by : (b : Bool) → (if b then x ∷ filter p xs else filter p xs) ≡ [] → (filter p xs ≡ [] → list_any p xs ≡ false)
        → (b || list_any p xs) ≡ false
    by true h rest = absurd (cons-nil h)
    by false h rest = rest h

eqb-zero : (n : ℕ) → (suc n == 0) ≡ true → ⊥
eqb-zero n h = let e : suc n ≡ 0 = eqb-true (suc n) 0 h in omega arith

-- a list without length
no_length : {A : Type 0} (xs : List A) → (length xs == 0) ≡ true → xs ≡ []
no_length [] h = refl
no_length (x ∷ xs) h = absurd (eqb-zero (length xs) h)

-- where nothing is done, all still wait
pub none_done : (done ws : List Waiting) → done ≡ filter is_done ws → (length done == 0) ≡ true
    → filter (λ w. not (is_done w)) ws ≡ ws
none_done done ws e h = filter_none is_done ws (none_kept is_done ws (sym e ∙ no_length done h))

-- what waits for no part of a switch waits on
without_parts-none : (n : ℕ) (w : Waiting) → has_part_of n w ≡ false → without_parts_of n w ≡ w
without_parts-none n w h =
    ap (λ (ps : List Part). record w { parts = ps }) (filter_none (λ (part : Part). part.switch == n) w.parts h)

pub all_without_parts : (n : ℕ) (ws : List Waiting) → list_any (has_part_of n) ws ≡ false
    → map (without_parts_of n) ws ≡ ws
all_without_parts n ws h = map_none (has_part_of n) (without_parts_of n) (without_parts-none n) ws h

-- what doesn't wait for a barrier waits on
without_barrier-none : (n number : ℕ) (w : Waiting) → waits_for_barrier n number w ≡ false
    → without_barrier n number w ≡ w
without_barrier-none n number w h = by (is_of_barriers w.purpose) h
  where
    by : (b : Bool) → (b && waits_for n number w) ≡ false → (if b then without_part n number w else w) ≡ w
    by true h = ap (λ (ps : List Part). record w { parts = ps }) (filter_none (is_part n number) w.parts h)
    by false h = refl

pub all_without_barrier : (n number : ℕ) (ws : List Waiting) → list_any (waits_for_barrier n number) ws ≡ false
    → map (without_barrier n number) ws ≡ ws
all_without_barrier n number ws h =
    map_none (waits_for_barrier n number) (without_barrier n number) (without_barrier-none n number) ws h

-- what waits for the parts that are left
pub parts_left : {E : Type 0} (r : Result (List Part) E) (n number : ℕ) (w : Waiting)
    → IfOk r (λ parts. parts ≡ filter (λ (part : Part). not (is_part n number part)) w.parts)
    → IfOk r (λ parts. record w { parts = parts } ≡ without_part n number w)
parts_left (Ok parts) n number w h = ap (λ (ps : List Part). record w { parts = ps }) h
parts_left (Err e) n number w h = tt
