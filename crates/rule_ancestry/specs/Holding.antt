-- What a store holds: items under ids, by rising id.
use Rattle.std.specs.Prelude.{ℕ, ◌==◌, Bool, not, if◌then◌else◌, Option, Some, None, List, [], ◌∷◌, map}
use Rattle.std.specs.List.{list_any}

-- an item under its id
pub record Held (R : Type 0) : Type 0 where
  pub id : ℕ
  pub item : R

module _ {R : Type 0} where
  -- the item of an id
  abbrev pub item_at : List (Held R) → ℕ → Option R
  item_at [] id = None
  item_at (h ∷ rest) id = if h.id == id then Some h.item else item_at rest id

  -- the id of what is held
  abbrev pub id_of : Held R → ℕ
  id_of h = h.id

  -- what is held, without its id
  abbrev pub item_of : Held R → R
  item_of h = h.item

  -- it stands under another id
  abbrev pub is_other : ℕ → Held R → Bool
  is_other id h = not (h.id == id)

  -- it stands under none of these ids
  abbrev pub is_outside : List ℕ → Held R → Bool
  is_outside ids h = not (list_any (λ id. h.id == id) ids)

  -- these items under these ids, in turn
  abbrev pub held_as : List ℕ → List R → List (Held R)
  held_as (id ∷ ids) (item ∷ items) = record { id = id; item = item } ∷ held_as ids items
  held_as [] items = []
  held_as (id ∷ ids) [] = []

  -- this item under an id that held another
  abbrev pub with_item : ℕ → R → List (Held R) → List (Held R)
  with_item id item held = map (λ h. if h.id == id then record { id = id; item = item } else h) held
