-- What an index holds, and what its answers are among that.
use Rattle.std.specs.Prelude.{◌≡◌, ℕ, ◌+◌, ◌==◌, ◌&&◌, ◌||◌, nat_lt, Bool, true, false, List, map, filter, Option, Some}
use Rattle.std.specs.Prelude.{None, MatchOption, count_by, if◌then◌else◌}
use Rattle.std.specs.List.{list_any}
use Rattle.of10_match.specs.Same.{same_match}
use Rattle.match_index.specs.declared.item.Item.{Item}

-- the items that are held, the last come mostly last, and how many more can be put in without memory
pub record IndexOf : Type 0 where
  pub items : List Item
  pub room : ℕ

-- the item has the id
abbrev pub has_id : ℕ → Item → Bool
has_id id e = id == e.id

-- equal in all parts
abbrev pub same_item : Item → Item → Bool
same_item a b = (a.id == b.id) && ((a.rank == b.rank) && same_match a.normal b.normal)

-- the ids of the items that pass a test
abbrev pub ids_of : (Item → Bool) → List Item → List ℕ
ids_of test items = map (λ (e : Item). e.id) (filter test items)

-- the first has a higher rank, or an equal one and a lesser id
abbrev pub is_before : Item → Item → Bool
is_before a b = nat_lt b.rank a.rank || ((a.rank == b.rank) && nat_lt a.id b.id)

-- the one of two that comes before the other, where both are there
abbrev pub before : Option Item → Option Item → Option Item
before None b = b
before (Some x) None = Some x
before (Some x) (Some y) = Some (if is_before y x then y else x)

-- the item is there and passes the test, and none that passes comes before it
pub record IsFirst (test : Item → Bool) (items : List Item) (first : Item) : Type 0 where
  pub there : list_any (same_item first) items ≡ true
  pub passes : test first ≡ true
  pub none_before : list_any (λ e. test e && is_before e first) items ≡ false

-- nothing passes the test; or it is the first that passes
abbrev pub IsTop : (Item → Bool) → List Item → Option Item → Type 0
IsTop test items top = MatchOption top (list_any test items ≡ false) (IsFirst test items)

-- an item that passes has this id, and none that passes has a lesser one
pub record IsLeastId (test : Item → Bool) (items : List Item) (id : ℕ) : Type 0 where
  pub there : list_any (λ e. test e && (e.id == id)) items ≡ true
  pub none_less : list_any (λ e. test e && nat_lt e.id id) items ≡ false

-- nothing passes the test; or it is the least id of those that pass
abbrev pub IsLeast : (Item → Bool) → List Item → Option ℕ → Type 0
IsLeast test items least = MatchOption least (list_any test items ≡ false) (IsLeastId test items)

-- the second list has the items of the first and one more, in any order
abbrev pub AddsTo : Item → List Item → List Item → Type 0
AddsTo x xs ys = (test : Item → Bool) → count_by test ys ≡ count_by test xs + (if test x then 1 else 0)
