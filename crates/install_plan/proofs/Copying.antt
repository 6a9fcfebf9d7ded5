-- A map is copied key by key.
use Rattle.std.proofs.Common.{◌≡◌, refl, List, [], ◌∷◌, ◌++◌, sym, ap, subst, ◌∙◌}
use Rattle.std.specs.BTreeMap.{insert_entry}
use Rattle.std.specs.Cmp.{IsTotalOrder}
use Rattle.std.specs.List.{AllByRecursion}
use Rattle.std.specs.List.Sorted.{IsStrictlySortedBy}
use Rattle.std.specs.Map.{keys_of}
use Rattle.std.specs.Ordering.{match_ordering, ordering_reverse}
use Rattle.std.specs.declared.cmp.Ordering.{Ordering}
use Rattle.std.specs.declared.cmp.Ordering.TheVariants.{Less, Greater}

turned : {K : Type 0} {order : K → K → Ordering} → IsTotalOrder order → (k q : K) → order k q ≡ Less
    → order q k ≡ Greater
turned total k q e = total.antisymm q k ∙ ap ordering_reverse e

module _ {K V : Type 0} {order : K → K → Ordering} (total : IsTotalOrder order) where
  abbrev Rise : List (K × V) → Type 0
  Rise es = IsStrictlySortedBy order (keys_of es)

  above : (k : K) (p : K × V) (es rest : List (K × V))
      → AllByRecursion (λ z. order k z ≡ Less) (keys_of (es ++ p ∷ rest)) → order k p.0 ≡ Less
  above k p [] rest a = a.0
  above k p (e ∷ es) rest a = above k p es rest a.1

  -- a key above all others comes last
  insert-last : (es rest : List (K × V)) (k : K) (v : V) → Rise (es ++ (k, v) ∷ rest)
      → insert_entry order es k v ≡ es ++ (k, v) ∷ []
  unfolding IsStrictlySortedBy
  insert-last [] rest k v r = refl
  insert-last (e ∷ es) rest k v r =
      ap (λ o. match_ordering o ((k, v) ∷ e ∷ es) ((e.0, v) ∷ es) (e ∷ insert_entry order es k v))
      (turned total e.0 k (above e.0 (k, v) es rest r.0))
      ∙ ap (λ xs. e ∷ xs) (insert-last es rest k v r.1)

  append-once : (es rest : List (K × V)) (p : K × V) → (es ++ p ∷ []) ++ rest ≡ es ++ p ∷ rest
  append-once [] rest p = refl
  append-once (e ∷ es) rest p = ap (λ xs. e ∷ xs) (append-once es rest p)

  -- one more is copied
  pub copy-step : (copied copied' rest rest' all : List (K × V)) (k : K) (v w : V) → rest ≡ (k, v) ∷ rest' → w ≡ v
      → Rise all → copied ++ rest ≡ all → copied' ≡ insert_entry order copied k w
      → copied' ++ rest' ≡ all
  copy-step copied copied' rest rest' all k v w e same r i is =
      let joined = ap (λ xs. copied ++ xs) (sym e) ∙ i in
      let last = insert-last copied rest' k v (subst Rise (sym joined) r) in
      ap (λ xs. xs ++ rest') (is ∙ (ap (insert_entry order copied k) same ∙ last))
      ∙ (append-once copied rest' (k, v) ∙ joined)
