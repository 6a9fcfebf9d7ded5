-- A walk over the ids of candidates gives what all that is held gives.
use Rattle.std.proofs.Common.{◌≡◌, ℕ, Bool, true, false, List, [], ◌∷◌, Option, Some, None, length, refl, sym, ap, ◌∙◌}
use Rattle.std.proofs.Common.{map, cond}
use Rattle.std.specs.Prelude.{filter, filter_map, IsPermutation, count_by}
use Rattle.std.specs.List.{AllByRecursion, cons_option}
use Rattle.std.proofs.lemmas.List.{length-map}
use Rattle.std.proofs.lemmas.List.Sums.{length-filter}
use Rattle.std.proofs.lemmas.List.Sorted.{IsPermutation-trans, length_permutation}
use Rattle.list_change.proofs.Permute.{by-equation, permuted-filter_map}
use Rattle.rule_ancestry.specs.Holding.{Held, id_of, item_at}
use Rattle.hop_rules.specs.Under.{AreFound, under}
use Rattle.hop_rules.proofs.Under.{under-ids, under-permuted}

module _ {R : Type 0} where
  found-cond : (held : List (Held R)) (h : Held R) (rest : List (Held R)) (t : Bool) → item_at held h.id ≡ Some h.item
      → AreFound held rest → AreFound held (cond t (h ∷ rest) rest)
  found-cond held h rest true e a = (e, a)
  found-cond held h rest false e a = a

  pub filter-found : (held : List (Held R)) (p : Held R → Bool) (hs : List (Held R)) → AreFound held hs
      → AreFound held (filter p hs)
  filter-found held p [] a = tt
  filter-found held p (h ∷ hs) a = found-cond held h (filter p hs) (p h) a.0 (filter-found held p hs a.1)

  -- the ids of the candidates are those of the candidates
  pub under-candidates : (p : Held R → Bool) (held hs : List (Held R)) (ids : List ℕ) → AreFound held hs
      → IsPermutation ids (map id_of (filter p hs)) → IsPermutation (under held ids) (filter p hs)
  under-candidates p held hs ids a h =
      IsPermutation-trans _ _ _ (under-permuted held ids _ h)
      (by-equation _ _ (under-ids held (filter p hs) (filter-found held p hs a)))

  pub candidates-count : (p : Held R → Bool) (hs : List (Held R)) (ids : List ℕ)
      → IsPermutation ids (map id_of (filter p hs)) → length ids ≡ count_by p hs
  candidates-count p hs ids h = sym (length_permutation ids _ h) ∙ length-map (filter p hs) id_of ∙ length-filter p hs

module _ {R C : Type 0} where
  candidates-cond : (f : Held R → Option C) (h : Held R) (rest more : List (Held R)) (t : Bool)
      → (t ≡ false → f h ≡ None) → filter_map f rest ≡ filter_map f more
      → filter_map f (h ∷ rest) ≡ filter_map f (cond t (h ∷ more) more)
  candidates-cond f h rest more true n e = ap (cons_option (f h)) e
  candidates-cond f h rest more false n e = ap (λ o. cons_option o (filter_map f rest)) (n refl) ∙ e

  pub candidates-all : (f : Held R → Option C) (p : Held R → Bool) (hs : List (Held R))
      → AllByRecursion (λ (h : Held R). p h ≡ false → f h ≡ None) hs → filter_map f hs ≡ filter_map f (filter p hs)
  candidates-all f p [] a = refl
  candidates-all f p (h ∷ hs) a = candidates-cond f h hs (filter p hs) (p h) a.0 (candidates-all f p hs a.1)

  -- a walk over the ids of the candidates, where the others make nothing
  pub walked : (f : Held R → Option C) (p : Held R → Bool) (held hs : List (Held R)) (ids : List ℕ) → AreFound held hs
      → IsPermutation ids (map id_of (filter p hs)) →
      AllByRecursion (λ (h : Held R). p h ≡ false → f h ≡ None) hs
      → IsPermutation (filter_map f (under held ids)) (filter_map f hs)
  walked f p held hs ids a h none =
      IsPermutation-trans _ (filter_map f (filter p hs)) _
      (permuted-filter_map f (under held ids) _ (under-candidates p held hs ids a h))
      (by-equation _ _ (sym (candidates-all f p hs none)))
