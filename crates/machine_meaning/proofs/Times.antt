-- How often numbers stand in lists, and lists that are changed at a place.
use Rattle.std.proofs.Common.{◌≡◌, ℕ, zero, suc, ◌+◌, ◌==◌, Bool, true, false, true≢false, ◌||◌, List, [], ◌∷◌}
use Rattle.std.proofs.Common.{length, None, cond, nat_lt, nat_cmp, is_eq, arith, refl, sym, ap, eq-eqb, eqb-true}
use Rattle.std.proofs.Common.{ltb-true, Less, Equal, Greater}
use Rattle.std.specs.Prelude.{slice_get}
use Rattle.std.specs.BTreeMap.{is_at}
use Rattle.std.specs.List.{list_any}
use Rattle.std.specs.Set.{remove_key}
use Rattle.std.proofs.lemmas.Bool.{eqb-false, ne_eqb}
use Rattle.machine_meaning.specs.Lists.{changed_at}
use Rattle.machine_meaning.proofs.Tallies.{one, tally}

-- how often a number is one of these
abbrev pub times : ℕ → List ℕ → ℕ
times c cs = tally (λ d. d == c) cs

pub is_at_number : (a b : ℕ) → is_at (nat_cmp a) b ≡ (b == a)
is_at_number a b = by (nat_lt a b) refl (a == b) refl
  where
    by : (t : Bool) → nat_lt a b ≡ t → (e : Bool) → (a == b) ≡ e
        → is_eq (cond t Less (cond e Equal Greater)) ≡ (b == a)
    by true f true g =
        let lt = ltb-true a b f in let same = eqb-true a b g in absurd (omega (arith, lt, same))
    by true f false g = sym (ne_eqb b a (λ e. eqb-false a b g (sym e)))
    by false f true g = sym (eq-eqb b a (sym (eqb-true a b g)))
    by false f false g = sym (ne_eqb b a (λ e. eqb-false a b g (sym e)))

-- a number that is removed was there once
pub removed_times : (cookie c : ℕ) (cs : List ℕ) → list_any (is_at (nat_cmp cookie)) cs ≡ true
    → times c (remove_key (is_at (nat_cmp cookie)) cs) + one (cookie == c) ≡ times c cs
removed_times cookie c [] e = absurd (true≢false (sym e))
removed_times cookie c (x ∷ xs) e =
    by (is_at (nat_cmp cookie) x) (sym (is_at_number cookie x)) e (removed_times cookie c xs)
  where
    by : (b : Bool) → (x == cookie) ≡ b → (b || list_any (is_at (nat_cmp cookie)) xs) ≡ true
        → (list_any (is_at (nat_cmp cookie)) xs ≡ true
        → times c (remove_key (is_at (nat_cmp cookie)) xs) + one (cookie == c) ≡ times c xs)
        → times c (cond b xs (x ∷ remove_key (is_at (nat_cmp cookie)) xs)) + one (cookie == c) ≡ times c (x ∷ xs)
    by true f t r =
        let same : one (x == c) ≡ one (cookie == c) = ap (λ (n : ℕ). one (n == c)) (eqb-true x cookie f) in
        omega (arith, same)
    by false f t r = let h = r t in omega (arith, h)

pub none_beside : {X Y : Type 0} (xs : List X) (ys : List Y) (n : ℕ) → length ys ≡ length xs
    → slice_get xs n ≡ None → slice_get ys n ≡ None
none_beside [] [] n e at = refl
none_beside [] (y ∷ ys) n e at = absurd (omega (arith, e))
none_beside (x ∷ xs) [] n e at = absurd (omega (arith, e))
none_beside (x ∷ xs) (y ∷ ys) zero e at = absurd (cc at)
none_beside (x ∷ xs) (y ∷ ys) (suc n) e at = none_beside xs ys n (omega (arith, e)) at

pub long_at : {X : Type 0} (n : ℕ) (f : X → X) (xs : List X) → length (changed_at n f xs) ≡ length xs
long_at n f [] = refl
long_at zero f (x ∷ xs) = refl
long_at (suc n) f (x ∷ xs) = ap suc (long_at n f xs)
