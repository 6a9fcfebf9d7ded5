-- What is held leaves.
use Rattle.std.proofs.Common.{◌≡◌, ℕ, ◌==◌, Bool, true, false, not, cond, List, [], ◌∷◌, Some, refl, sym, ap, subst}
use Rattle.std.proofs.Common.{◌∙◌, map, inl, inr}
use Rattle.std.specs.Prelude.{IsPermutation, filter}
use Rattle.std.specs.List.{AllByRecursion}
use Rattle.std.specs.List.Sorted.{IsStrictlySortedBy}
use Rattle.std.specs.Ordering.{nat_cmp}
use Rattle.std.specs.Cmp.{nat_cmp_is}
use Rattle.std.specs.declared.cmp.Ordering.TheVariants.{Equal, Less}
use Rattle.std.proofs.lemmas.Bool.{cases_eq}
use Rattle.std.proofs.lemmas.List.Sorted.{IsPermutation-trans, IsPermutation-cons, IsPermutation-middle}
use Rattle.list_change.proofs.Permute.{by-equation}
use Rattle.rule_ancestry.specs.Holding.{Held, id_of, is_other, item_at}
use Rattle.rule_ancestry.proofs.StoreLemmas.{eq-other}
use Rattle.made_rules.proofs.Ids.{Rising}
use Rattle.hop_rules.proofs.Names.{is-same}

-- ---- it leaves
later-differs : (i j : ℕ) → nat_cmp i j ≡ Less → (j == i) ≡ false
later-differs i j e = elim (cases_eq j i) [
  | inl s ↦ absurd (let z : Equal ≡ Less = nat_cmp_is i j Equal (sym s) ∙ e in cc)
  | inr n ↦ eq-other j i (λ s. n (sym s))
]

module _ {R : Type 0} where
  later-stay : (id : ℕ) (hs : List (Held R)) → AllByRecursion (λ j. nat_cmp id j ≡ Less) (map id_of hs)
      → filter (is_other id) hs ≡ hs
  later-stay id [] a = refl
  later-stay id (h ∷ hs) a = ap (λ t. cond (not t) (h ∷ filter (is_other id) hs) (filter (is_other id) hs))
      (later-differs id h.id a.0) ∙ ap (λ z. h ∷ z) (later-stay id hs a.1)

  taken-by : (id : ℕ) (r : R) (h : Held R) (hs : List (Held R)) (t : Bool) → (h.id == id) ≡ t
      → AllByRecursion (λ j. nat_cmp h.id j ≡ Less) (map id_of hs) → cond t (Some h.item) (item_at hs id) ≡ Some r →
      (item_at hs id ≡ Some r → IsPermutation hs (record { id = id; item = r } ∷ filter (is_other id) hs))
      → IsPermutation (h ∷ hs)
      (record { id = id; item = r } ∷ cond (not t) (h ∷ filter (is_other id) hs) (filter (is_other id) hs))
  taken-by id r h hs true e a s f =
      let same : h.id ≡ id = is-same h.id id e in
      let item : h.item ≡ r = cc in
      let head : h ≡ record { id = id; item = r } = λ i. record { id = same i; item = item i } in
      by-equation _ _ (ap (λ z. z ∷ hs) head
      ∙ ap (λ z. record { id = id; item = r } ∷ z)
      (sym (later-stay id hs (subst (λ k. AllByRecursion (λ j. nat_cmp k j ≡ Less) (map id_of hs)) same a))))
  taken-by id r h hs false e a s f =
      IsPermutation-trans _ (h ∷ (record { id = id; item = r } ∷ filter (is_other id) hs)) _
      (IsPermutation-cons h _ _ (f s))
      (IsPermutation-middle (h ∷ []) (record { id = id; item = r }) (filter (is_other id) hs))

  -- what stands under an id, and the rest
  pub taken-out : (hs : List (Held R)) (id : ℕ) (r : R) → Rising hs → item_at hs id ≡ Some r
      → IsPermutation hs (record { id = id; item = r } ∷ filter (is_other id) hs)
  unfolding IsStrictlySortedBy
  taken-out [] id r up e = absurd (cc)
  taken-out (h ∷ hs) id r up e = taken-by id r h hs (h.id == id) refl up.0 e (taken-out hs id r up.1)
