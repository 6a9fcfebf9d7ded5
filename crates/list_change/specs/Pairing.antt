-- What two operands make: lone items of the left, an item of each pair that makes one, lone items of the right.
use Rattle.std.specs.Prelude.{Option, List, [], ◌∷◌, ◌++◌, filter_map, flat_map}

-- how items are made: what one of the left makes alone, what a pair makes, what one of the right makes alone
pub record Way (A B C : Type 0) : Type 0 where
  pub lone : A → Option C
  pub pair : A → B → Option C
  pub other : B → Option C

module _ {A B C : Type 0} where
  -- what each pair makes
  abbrev pub pairs : (A → B → Option C) → List A → List B → List C
  pairs f xs ys = flat_map (λ a. filter_map (f a) ys) xs

  -- all that the operands make
  abbrev pub made : Way A B C → List A → List B → List C
  made w xs ys = (filter_map w.lone xs ++ pairs w.pair xs ys) ++ filter_map w.other ys

  -- what these of the left make
  abbrev pub by_left : Way A B C → List A → List B → List C
  by_left w xs ys = filter_map w.lone xs ++ pairs w.pair xs ys

  -- what these of the right make
  abbrev pub by_right : Way A B C → List A → List B → List C
  by_right w xs ys = pairs w.pair xs ys ++ filter_map w.other ys

  -- what one of the left makes
  abbrev pub by_one : Way A B C → List B → A → List C
  by_one w ys a = by_left w (a ∷ []) ys
