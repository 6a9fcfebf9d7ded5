-- What is held under some ids.
use Rattle.std.specs.Prelude.{◌≡◌, ℕ, Option, Some, None, List, [], ◌∷◌, flat_map, map}
use Rattle.std.specs.List.{AllByRecursion}
use Rattle.std.specs.List.Sorted.{IsStrictlySortedBy}
use Rattle.std.specs.Ordering.{nat_cmp}
use Rattle.rule_ancestry.specs.Holding.{Held, id_of, item_at}

module _ {R : Type 0} where
  -- an item under an id, if there is one
  abbrev pub one_held : ℕ → Option R → List (Held R)
  one_held id None = []
  one_held id (Some r) = record { id = id; item = r } ∷ []

  -- what is held under an id
  abbrev pub held_under : List (Held R) → ℕ → List (Held R)
  held_under held id = one_held id (item_at held id)

  -- what is held under some ids, in turn
  abbrev pub under : List (Held R) → List ℕ → List (Held R)
  under held ids = flat_map (held_under held) ids

  -- each stands under its id
  abbrev pub AreFound : List (Held R) → List (Held R) → Type 0
  AreFound held hs = AllByRecursion (λ (h : Held R). item_at held h.id ≡ Some h.item) hs

  -- the ids rise, so that each stands once
  abbrev pub Rises : List (Held R) → Type 0
  Rises hs = IsStrictlySortedBy nat_cmp (map id_of hs)
