-- What passes a test.
use Rattle.std.proofs.Common.{◌≡◌, Bool, true, false, ◌||◌, ◌&&◌, List, [], ◌∷◌, ◌++◌, refl, sym, ap, ap₂, ◌∙◌}
use Rattle.std.proofs.Common.{true≢false}
use Rattle.std.specs.List.{list_any}
use Rattle.member_table.proofs.Lists.{or_false}

-- where a weaker test fails everywhere, a stronger one does
pub any_stronger : {X : Type 0} (p q : X → Bool) → ((x : X) → q x ≡ true → p x ≡ true) → (xs : List X)
    → list_any p xs ≡ false → list_any q xs ≡ false
any_stronger p q w [] h = refl
any_stronger p q w (x ∷ xs) h = let o = or_false (p x) (list_any p xs) h in
    by (q x) refl o.0 (any_stronger p q w xs o.1)
  where
    by : (b : Bool) → q x ≡ b → p x ≡ false → list_any q xs ≡ false → (q x || list_any q xs) ≡ false
    by true e n r = absurd (true≢false (sym (w x e) ∙ n))
    by false e n r = rw e r

pub and_true : (a b : Bool) → (a && b) ≡ true → (a ≡ true) × (b ≡ true)
and_true true b h = (refl, h)
and_true false b h = absurd (true≢false (sym h))

pub push_any : {X : Type 0} (q : X → Bool) (xs : List X) (x : X) → list_any q (xs ++ x ∷ []) ≡ (list_any q xs || q x)
push_any q [] x = or_right (q x)
  where
    or_right : (c : Bool) → (c || false) ≡ c
    or_right true = refl
    or_right false = refl
push_any q (y ∷ xs) x = ap (λ b. q y || b) (push_any q xs x) ∙ or_assoc (q y) (list_any q xs) (q x)
  where
    or_assoc : (a b c : Bool) → (a || (b || c)) ≡ ((a || b) || c)
    or_assoc true b c = refl
    or_assoc false b c = refl

-- where a stronger test passes somewhere, a weaker one does
pub any_weaker : {X : Type 0} (p q : X → Bool) → ((x : X) → p x ≡ true → q x ≡ true) → (xs : List X)
    → list_any p xs ≡ true → list_any q xs ≡ true
any_weaker p q w xs h = by (list_any q xs) refl
  where
    by : (b : Bool) → list_any q xs ≡ b → list_any q xs ≡ true
    by true t = t
    by false t = absurd (true≢false (sym h ∙ any_stronger q p w xs t))

-- tests that agree on each pass alike
pub any_alike : {X : Type 0} (p q : X → Bool) → ((x : X) → p x ≡ q x) → (xs : List X) → list_any p xs ≡ list_any q xs
any_alike p q same [] = refl
any_alike p q same (x ∷ xs) = ap₂ (λ a b. a || b) (same x) (any_alike p q same xs)
