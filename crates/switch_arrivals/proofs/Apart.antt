-- Each datapath id stands once, whatever becomes of the claims to it.
use Rattle.std.proofs.Common.{◌≡◌, ◌∙◌, ℕ, zero, suc, ◌==◌, ◌||◌, ◌&&◌, Bool, true, false, List, [], ◌∷◌, ◌++◌, Option, Some, None}
use Rattle.std.proofs.Common.{ap, arith, get_or, length, map, not, refl, subst, sym}
use Rattle.std.proofs.lemmas.List.{map-append}
use Rattle.std.specs.Cmp.{nat_eq_equiv}
use Rattle.std.proofs.Math.Seq.{map-set_same}
use Rattle.std.specs.List.{AllByRecursion, IsDistinct, list_any, refill}
use Rattle.std.specs.Prelude.{if◌then◌else◌, nat_eq, slice_get, slice_set}
use Rattle.std.proofs.lemmas.Map.Keys.{IsDistinct-from_apart, IsDistinct-head, IsDistinct-push, IsDistinct-tail}
use Rattle.switch_arrivals.proofs.Places.{put_back}
use Rattle.switch_arrivals.specs.Claims.{AreApart, after_giving, has_given, is_givable, is_nobody, is_of, settled, unclaimed, with_given}
use Rattle.switch_arrivals.specs.declared.claim.Claim.{Claim}
use Rattle.switch_arrivals.specs.declared.claim.Duel.{Duel}
use Rattle.switch_arrivals.specs.declared.claim.Duel.TheVariants.{Open, Up, Over}
use Rattle.switch_arrivals.specs.declared.claim.Newcomer.{Newcomer}

module _ {L C : Type 0} where
  -- the same question, asked of the claims or of their datapath ids
  any_of : (dpid : ℕ) (xs : List (Claim L C))
      → list_any (nat_eq dpid) (map (λ (c : Claim L C). c.dpid) xs) ≡ list_any (is_of dpid) xs
  any_of dpid [] = refl
  any_of dpid (x ∷ xs) = ap (λ b. (dpid == x.dpid) || b) (any_of dpid xs)

  pub apart_push : (dpid : ℕ) (xs : List (Claim L C)) → list_any (is_of dpid) xs ≡ false → AreApart xs
      → AreApart (xs ++ unclaimed dpid ∷ [])
  apart_push dpid xs none apart =
      subst (IsDistinct ◌==◌) (sym (map-append (λ (c : Claim L C). c.dpid) xs (unclaimed dpid ∷ [])))
      (IsDistinct-push nat_eq_equiv (map (λ (c : Claim L C). c.dpid) xs) dpid apart (any_of dpid xs ∙ none))

  -- where no claim is to this datapath id, no connection of it is given
  none_of : (dpid : ℕ) (xs : List (Claim L C))
      → AllByRecursion (λ d. nat_eq dpid d ≡ false) (map (λ (c : Claim L C). c.dpid) xs)
      → list_any (has_given dpid) xs ≡ false
  none_of dpid [] others = refl
  none_of dpid (x ∷ xs) others = rw others.0 (none_of dpid xs others.1)

  -- a claim that stands among these is to another datapath id
  other_of : (dpid : ℕ) (xs : List (Claim L C)) (i : ℕ) (c : Claim L C)
      → AllByRecursion (λ d. nat_eq dpid d ≡ false) (map (λ (c : Claim L C). c.dpid) xs)
      → slice_get xs i ≡ Some c → nat_eq dpid c.dpid ≡ false
  other_of dpid [] i c others at = absurd (cc)
  other_of dpid (x ∷ xs) zero c others at =
      let same : x ≡ c = cc in subst (λ (y : Claim L C). nat_eq dpid y.dpid ≡ false) same others.0
  other_of dpid (x ∷ xs) (suc i) c others at = other_of dpid xs i c others.1 at

  -- where nobody has a datapath id, no connection of it is given
  pub none_given : (xs : List (Claim L C)) (i : ℕ) (c : Claim L C) → slice_get xs i ≡ Some c
      → is_nobody c.holder ≡ true → AreApart xs → list_any (has_given c.dpid) xs ≡ false
  none_given [] i c at nobody apart = absurd (cc)
  none_given (x ∷ xs) zero c at nobody apart =
      let same : x ≡ c = cc in
      let here : is_nobody x.holder ≡ true = subst (λ (y : Claim L C). is_nobody y.holder ≡ true) (sym same) nobody in
      let rest : list_any (has_given x.dpid) xs ≡ false = none_of x.dpid xs
      (IsDistinct-head nat_eq x.dpid (map (λ (c : Claim L C). c.dpid) xs) apart) in
      let whole : list_any (has_given x.dpid) (x ∷ xs) ≡ false =
      rw (here, rest) (by (nat_eq x.dpid x.dpid)) in
      subst (λ (y : Claim L C). list_any (has_given y.dpid) (x ∷ xs) ≡ false) same whole
    where
      by : (b : Bool) → ((b && not true) || false) ≡ false
      by true = refl
      by false = refl
  none_given (x ∷ xs) (suc i) c at nobody apart =
      let others = IsDistinct-head nat_eq x.dpid (map (λ (c : Claim L C). c.dpid) xs) apart in
      let laws = nat_eq_equiv in
      let apart_from : nat_eq c.dpid x.dpid ≡ false = laws.symm c.dpid x.dpid ∙ other_of x.dpid xs i c others at in
      let rest : list_any (has_given c.dpid) xs ≡ false = none_given xs i c at nobody
      (IsDistinct-tail nat_eq x.dpid (map (λ (c : Claim L C). c.dpid) xs) apart) in
      rw (apart_from, rest) refl

  -- a claim that was lent is given back with the same datapath id
  pub apart_back : (inside lent : List (Claim L C)) (i : ℕ) (x y : Claim L C) → lent ≡ inside → x ≡ get_or lent i x
      → y.dpid ≡ x.dpid → AreApart inside → AreApart (refill (length inside) inside (slice_set lent i y))
  apart_back inside lent i x y e is same apart =
      let e' : map (λ (c : Claim L C). c.dpid) (slice_set inside i y) ≡ map (λ (c : Claim L C). c.dpid) inside =
      map-set_same (λ (c : Claim L C). c.dpid) inside i y x
      (same ∙ ap (λ (c : Claim L C). c.dpid) (is ∙ ap (λ zs. get_or zs i x) e)) in
      subst (λ (zs : List (Claim L C)). AreApart zs) (sym (put_back inside inside lent i y refl e)) (subst (IsDistinct ◌==◌) (sym e') apart)

  kept_settled_by : (d : Duel L C) (x : Claim L C) → (settled d x).dpid ≡ x.dpid
  kept_settled_by Open x = refl
  kept_settled_by (Up newcomer) x = refl
  kept_settled_by Over x = refl

  pub kept_settled : (d : Duel L C) (x y : Claim L C) → y ≡ settled d x → y.dpid ≡ x.dpid
  kept_settled d x y e = ap (λ (c : Claim L C). c.dpid) e ∙ kept_settled_by d x

  kept_with : (now : ℕ) (n : Option (Newcomer L C)) (x : Claim L C) → (with_given now n x).dpid ≡ x.dpid
  kept_with now None x = refl
  kept_with now (Some n) x = refl

  kept_given_by : (b : Bool) (now : ℕ) (x : Claim L C)
      → (if b then with_given now x.newcomer x else x).dpid ≡ x.dpid
  kept_given_by true now x = kept_with now x.newcomer x
  kept_given_by false now x = refl

  pub kept_given : (now : ℕ) (x y : Claim L C) → y ≡ after_giving now x → y.dpid ≡ x.dpid
  kept_given now x y e = ap (λ (c : Claim L C). c.dpid) e ∙ kept_given_by (is_givable now x) now x

pub apart_none : (L C : Type 0) → AreApart {L = L} {C = C} []
apart_none L C = IsDistinct-from_apart nat_eq [] (λ i j d before within. absurd (omega arith))
