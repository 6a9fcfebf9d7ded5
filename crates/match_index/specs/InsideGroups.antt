-- How items stand in an index.
use Rattle.std.specs.Prelude.{◌≡◌, ℕ, ◌==◌, Bool, List, ◌++◌, flat_map, map, count_by}
use Rattle.std.specs.List.{All, IsDistinct}
use Rattle.of10_match.specs.Fields.{MatchOf}
use Rattle.of10_match.specs.Ranges.{IsMatch}
use Rattle.of10_match.specs.Same.{same_match}
use Rattle.match_index.specs.InsideShapes.{shape_of}
use Rattle.match_index.specs.declared.item.Item.{Item}
use Rattle.match_index.specs.declared.shape.Shape.{Shape}

-- the items whose matches have one shape
pub record GroupOf : Type 0 where
  pub shape : Shape
  pub items : List Item

-- the items of all buckets
abbrev pub in_buckets : List (MatchOf × List Item) → List Item
in_buckets buckets = flat_map (λ b. b.1) buckets

-- the items of all groups
abbrev pub in_groups : List GroupOf → List Item
in_groups groups = flat_map (λ g. g.items) groups

-- a bucket has the items of its match alone, which has the shape
pub record IsBucket (shape : Shape) (bucket : MatchOf × List Item) : Type 0 where
  pub of_shape : shape_of bucket.0 ≡ shape
  pub in_range : IsMatch bucket.0
  pub of_match : All (λ e. e.normal ≡ bucket.0) bucket.1

-- the buckets of a group: one for each match
pub record AreBuckets (shape : Shape) (buckets : List (MatchOf × List Item)) : Type 0 where
  pub each : All (IsBucket shape) buckets
  pub once : IsDistinct same_match (map (λ b. b.0) buckets)

-- the same items in any order
abbrev pub SameItems : List Item → List Item → Type 0
SameItems xs ys = (test : Item → Bool) → count_by test xs ≡ count_by test ys

-- each item stands under its id, and in the list of those that came late or in a group
pub record AreKept (held : List (ℕ × Item)) (late : List Item) (groups : List GroupOf) : Type 0 where
  pub ids : All (λ (p : ℕ × Item). p.0 ≡ p.1.id) held
  pub once : IsDistinct ◌==◌ (map (λ (p : ℕ × Item). p.0) held)
  pub same : SameItems (map (λ (p : ℕ × Item). p.1) held) (late ++ in_groups groups)
