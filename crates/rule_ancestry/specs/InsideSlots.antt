-- The slots in which a store keeps its items: for each id from 0 on an item, or nothing.
use Rattle.std.specs.Prelude.{◌≡◌, ◌≢◌, ◌+◌, ◌++◌, ℕ, Option, Some, None, List, [], ◌∷◌, slice_index_or, filter}
use Rattle.std.specs.Prelude.{IsPermutation}
use Rattle.rule_ancestry.specs.Holding.{Held, is_other}

module _ {R : Type 0} where
  -- what stands under an id
  abbrev pub at : List (Option R) → ℕ → Option R
  at slots id = slice_index_or slots id None

  -- one id has this, and each other has what it had
  pub record Updated (old new : List (Option R)) (id : ℕ) (slot : Option R) : Type 0 where
    pub here : at new id ≡ slot
    pub others : (other : ℕ) → other ≢ id → at new other ≡ at old other

  -- all that is held, where the first slot has this id
  abbrev pub held_from : ℕ → List (Option R) → List (Held R)
  held_from id [] = []
  held_from id (None ∷ rest) = held_from (id + 1) rest
  held_from id (Some item ∷ rest) = record { id = id; item = item } ∷ held_from (id + 1) rest

  -- one more is held, under an id that is noted
  pub record AddsOne (old new : List (Held R)) (ids ids' : List ℕ) (item : R) : Type 0 where
    pub id : ℕ
    pub added : IsPermutation (record { id = id; item = item } ∷ old) new
    pub others : filter (is_other id) new ≡ old
    pub noted : ids' ≡ ids ++ id ∷ []
