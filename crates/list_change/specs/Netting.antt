-- What is in both lists of a change, by an order of items.
use Rattle.std.specs.Prelude.{◌≡◌, List, ◌++◌, Contains, IsPermutation, IsSortedBy, map}
use Rattle.std.specs.Ordering.{is_lt}
use Rattle.std.specs.declared.cmp.Ordering.{Ordering}
use Rattle.std.specs.declared.cmp.Ordering.TheVariants.{Equal}
use Rattle.list_change.specs.declared.netting.Place.{Place}
use Rattle.list_change.specs.declared.netting.Both.{Both}

module _ {T : Type 0} (cmp : T → T → Ordering) where
  -- the place where an item was
  abbrev pub was_of : Both T → Place T
  was_of b = b.was

  -- the place where it is
  abbrev pub is_of : Both T → Place T
  is_of b = b.is

  -- the items of two places differ
  abbrev pub Differ : Place T → Place T → Type 0
  Differ x y = cmp x.item y.item ≡ Equal → ⊥

  -- nothing is lost, what is in both is equal, and no two of the rest are
  pub record IsNet (gone come rest others : List (Place T)) (both : List (Both T)) : Type 0 where
    pub was : IsPermutation gone (rest ++ map was_of both)
    pub is : IsPermutation come (others ++ map is_of both)
    pub equal : (b : Both T) → Contains both b → cmp b.was.item b.is.item ≡ Equal
    pub apart : (x y : Place T) → Contains rest x → Contains others y → Differ x y

  -- the same where some of either list, in rising order, are still to be told apart
  pub record IsParted (gone come left right rest others : List (Place T)) (both : List (Both T)) : Type 0 where
    pub was : IsPermutation gone (left ++ (rest ++ map was_of both))
    pub is : IsPermutation come (right ++ (others ++ map is_of both))
    pub equal : (b : Both T) → Contains both b → cmp b.was.item b.is.item ≡ Equal
    pub left_rises : IsSortedBy (λ (x y : Place T). is_lt (cmp x.item y.item)) left
    pub right_rises : IsSortedBy (λ (x y : Place T). is_lt (cmp x.item y.item)) right
    pub rest_apart : (x y : Place T) → Contains rest x → Contains (right ++ others) y → Differ x y
    pub others_apart : (x y : Place T) → Contains left x → Contains others y → Differ x y
