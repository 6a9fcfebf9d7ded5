-- The first item that passes a test, as a search comes to it; and what deltas say of a place.
use Rattle.std.proofs.Common.{◌≡◌, ℕ, zero, suc, ◌+◌, ◌<◌, ◌≤◌, Bool, true, false, cond, List, [], ◌∷◌, Option, Some}
use Rattle.std.proofs.Common.{None, length, get_or, drop, sym, ap, ◌∙◌, arith, add-one, drop-cons}
use Rattle.std.specs.Prelude.{find}
use Rattle.std.specs.Option.{option_map_or}
use Rattle.std.proofs.Math.Seq.{drop-nil}
use Rattle.hop_rules.specs.Tables.{is_of}
use Rattle.hop_rules.specs.declared.delta.PortDelta.{PortDelta}
use Rattle.policy_meaning.specs.declared.network.Place.{Place}
use Rattle.composed_tables.specs.Placing.{rules_at, rules_for}
use Rattle.composed_tables.specs.declared.part.Part.{Part}

module _ {X : Type 0} (p : X → Bool) (xs : List X) (i : ℕ) where
  find-cons : (x : X) (ys : List X) (b : Bool) → p x ≡ b → find p (x ∷ ys) ≡ cond b (Some x) (find p ys)
  find-cons x ys b e = ap (λ c. cond c (Some x) (find p ys)) e

  find-at : (x : X) (b : Bool) → i < length xs → x ≡ get_or xs i x → p x ≡ b
      → find p (drop i xs) ≡ cond b (Some x) (find p (drop (i + 1) xs))
  find-at x b lt e t =
      ap (find p) (drop-cons xs i x lt ∙ ap (λ z. z ∷ drop (suc i) xs) (sym e))
      ∙ (find-cons x (drop (suc i) xs) b t ∙ ap (λ k. cond b (Some x) (find p (drop k xs))) (sym (add-one i)))

  -- it passes: it is the first
  pub find-here : (x : X) → find p (drop i xs) ≡ find p xs → i < length xs → x ≡ get_or xs i x → p x ≡ true
      → find p xs ≡ Some x
  find-here x far lt e t = sym far ∙ find-at x true lt e t

  -- it doesn't: the search goes on
  pub find-on : (x : X) → find p (drop i xs) ≡ find p xs → i < length xs → x ≡ get_or xs i x → p x ≡ false
      → find p (drop (i + 1) xs) ≡ find p xs
  find-on x far lt e t = sym (find-at x false lt e t) ∙ far

-- nothing was found
pub find-none : {X : Type 0} (p : X → Bool) (xs : List X) (i : ℕ) → find p (drop i xs) ≡ find p xs → length xs ≤ i
    → find p xs ≡ None
find-none p xs i far le = sym far ∙ ap (find p) (drop-past xs i le)
  where
    drop-past : {X : Type 0} (ys : List X) (k : ℕ) → length ys ≤ k → drop k ys ≡ []
    drop-past [] k le = drop-nil k
    drop-past (y ∷ ys) zero le = absurd (omega arith)
    drop-past (y ∷ ys) (suc k) le = drop-past ys k (omega arith)

-- what deltas say of a place, where the search finds one of it, and where it finds none
module _ (part : Part) (p : Place) (deltas : List PortDelta) (i : ℕ)
    (far : find (is_of p) (drop i deltas) ≡ find (is_of p) deltas) where
  pub rules-here : (d : PortDelta) → i < length deltas → d ≡ get_or deltas i d → is_of p d ≡ true
      → rules_at part deltas p ≡ rules_for part d
  rules-here d lt e t = ap (λ (o : Option PortDelta). option_map_or (rules_for part) o [])
      (find-here (is_of p) deltas i d far lt e t)

  pub rules-none : length deltas ≤ i → rules_at part deltas p ≡ []
  rules-none le = ap (λ (o : Option PortDelta). option_map_or (rules_for part) o [])
      (find-none (is_of p) deltas i far le)
