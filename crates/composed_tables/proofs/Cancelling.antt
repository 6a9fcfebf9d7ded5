-- What lists in other orders have in common can be left out of both.
use Rattle.std.proofs.Common.{◌≡◌, List, [], ◌∷◌, ◌++◌, refl, subst}
use Rattle.std.specs.Prelude.{IsPermutation}
use Rattle.std.proofs.lemmas.List.Sorted.{IsPermutation-append_comm, IsPermutation-append_left}
use Rattle.std.proofs.lemmas.List.Sorted.{IsPermutation-append_right, IsPermutation-cons, IsPermutation-refl}
use Rattle.std.proofs.lemmas.List.Sorted.{IsPermutation-sym, IsPermutation-trans}
use Rattle.list_change.specs.Changes.{Changed}
use Rattle.list_change.proofs.Permute.{Perm, by-cases, next, nil, skip, turn}

-- the second list is the first without one item
data Without {X : Type 0} (x : X) : List X → List X → Type 0 where
  first : {xs : List X} → Without x (x ∷ xs) xs
  later : {y : X} {xs ys : List X} → Without x xs ys → Without x (y ∷ xs) (y ∷ ys)

module _ {X : Type 0} where
  turned : (x y : X) (xs : List X) → IsPermutation (x ∷ y ∷ xs) (y ∷ x ∷ xs)
  turned x y xs = IsPermutation-append_left xs (x ∷ y ∷ []) (y ∷ x ∷ []) (IsPermutation-append_comm (x ∷ []) (y ∷ []))

  from-cases : {xs ys : List X} → Perm xs ys → IsPermutation xs ys
  from-cases nil = IsPermutation-refl []
  from-cases (skip {xs = xs} {ys = ys} x p) = IsPermutation-cons x xs ys (from-cases p)
  from-cases (turn x y xs) = turned x y xs
  from-cases (next {xs = xs} {ys = ys} {zs = zs} p q) = IsPermutation-trans xs ys zs (from-cases p) (from-cases q)

  put-back : {x : X} {xs ys : List X} → Without x xs ys → IsPermutation xs (x ∷ ys)
  put-back {x} (first {xs = xs}) = IsPermutation-refl (x ∷ xs)
  put-back {x} (later {y = y} {xs = xs} {ys = ys} w) =
      IsPermutation-trans (y ∷ xs) (y ∷ x ∷ ys) (x ∷ y ∷ ys) (IsPermutation-cons y xs (x ∷ ys) (put-back w))
      (turned y x ys)

  -- the same item taken out of a list in another order
  record Taken (x : X) (xs ys : List X) : Type 0 where
    rest : List X
    without : Without x ys rest
    same : IsPermutation xs rest

  by-skip : (x y : X) (xs ys zs : List X) → ((us : List X) → Without x xs us → Taken x us ys) → IsPermutation xs ys
      → Without x (y ∷ xs) zs → Taken x zs (y ∷ ys)
  by-skip x y xs ys zs more m first = record { rest = ys; without = first; same = m }
  by-skip x y xs ys zs more m (later {ys = us} w) =
      let t = more us w in record {
        rest = y ∷ t.rest;
        without = later t.without;
        same = IsPermutation-cons y us t.rest t.same;
      }

  by-turn : (x a b : X) (xs zs : List X) → Without x (a ∷ b ∷ xs) zs → Taken x zs (b ∷ a ∷ xs)
  by-turn x a b xs zs first = record { rest = b ∷ xs; without = later first; same = IsPermutation-refl (b ∷ xs) }
  by-turn x a b xs zs (later first) = record { rest = a ∷ xs; without = first; same = IsPermutation-refl (a ∷ xs) }
  by-turn x a b xs zs (later (later {ys = us} w)) =
      record { rest = b ∷ a ∷ us; without = later (later w); same = turned a b us }

  take-out : (x : X) {xs ys : List X} → Perm xs ys → (zs : List X) → Without x xs zs → Taken x zs ys
  take-out x nil zs w = elim w [ ]
  take-out x (skip {xs = xs} {ys = ys} y p) zs w = by-skip x y xs ys zs (λ us v. take-out x p us v) (from-cases p) w
  take-out x (turn a b xs) zs w = by-turn x a b xs zs w
  take-out x (next p q) zs w =
      let one = take-out x p zs w in
      let two = take-out x q one.rest one.without in
      record {
        rest = two.rest;
        without = two.without;
        same = IsPermutation-trans zs one.rest two.rest one.same two.same;
      }

  without-first : (x y : X) (xs ys zs : List X) → x ≡ y → IsPermutation xs zs → Without x (y ∷ ys) zs
      → IsPermutation xs ys
  without-first x y xs ys zs e m first = m
  without-first x y xs ys zs e m (later {ys = us} w) =
      IsPermutation-trans xs (y ∷ us) ys m
      (subst (λ (z : X). IsPermutation (z ∷ us) ys) e (IsPermutation-sym ys (x ∷ us) (put-back w)))

  cancelled-one : (x : X) (xs ys : List X) → IsPermutation (x ∷ xs) (x ∷ ys) → IsPermutation xs ys
  cancelled-one x xs ys m = let t = take-out x (by-cases (x ∷ xs) (x ∷ ys) m) xs first in
      without-first x x xs ys t.rest refl t.same t.without

  pub cancelled : (gs xs ys : List X) → IsPermutation (gs ++ xs) (gs ++ ys) → IsPermutation xs ys
  cancelled [] xs ys m = m
  cancelled (g ∷ gs) xs ys m = cancelled gs xs ys (cancelled-one g (gs ++ xs) (gs ++ ys) m)

  -- lists that are the same in other orders stay so through the same change
  pub same-after : (xs ys us vs gone come : List X) → IsPermutation xs us → Changed xs ys gone come
      → Changed us vs gone come → IsPermutation ys vs
  same-after xs ys us vs gone come m c d =
      let kept : IsPermutation c.kept d.kept =
      cancelled gone c.kept d.kept (IsPermutation-trans (gone ++ c.kept) us (gone ++ d.kept)
      (IsPermutation-trans (gone ++ c.kept) xs us (IsPermutation-sym xs (gone ++ c.kept) c.was) m) d.was) in
      IsPermutation-trans ys (come ++ c.kept) vs c.is
      (IsPermutation-trans (come ++ c.kept) (come ++ d.kept) vs (IsPermutation-append_right come c.kept d.kept kept)
      (IsPermutation-sym vs (come ++ d.kept) d.is))
