-- Expressions of a few members of one number of levels, and what their compiled expressions can take.
use Rattle.std.specs.Prelude.{◌≡◌, ℕ, true, ◌<◌, List, length}
use Rattle.std.specs.List.{AllByRecursion}
use Rattle.of10_match.specs.Normal.{IsNormal}
use Rattle.policy_expr.specs.Policy.{Policy, member, parallel, sequential, override}
use Rattle.policy_meaning.specs.declared.leaf.LeafTable.{LeafTable}
use Rattle.policy_meaning.specs.declared.rule.Rule.{Rule}
use Rattle.incr_compile.specs.Compiling.{IsMemberDelta, IsOf, policy_in}
use Rattle.incr_compile.specs.Trees.{TreeOf, has_member}
use Rattle.incr_compile.specs.declared.compiled.LeafDelta.{LeafDelta}
use Rattle.fitting_changes.specs.declared.shape.Shape.{Shape}
use Rattle.fitting_changes.specs.declared.shape.Shape.TheVariants.{Parallel, Sequential, Override, Mixed}

-- the expression of a shape
abbrev pub policy_by : Shape → Policy
policy_by Parallel = parallel (member 0) (member 1)
policy_by Sequential = sequential (member 0) (member 1)
policy_by Override = override (member 0) (member 1)
policy_by Mixed = parallel (override (member 0) (member 1)) (sequential (member 2) (member 3))

-- how many members it has
abbrev pub count_of : Shape → ℕ
count_of Parallel = 2
count_of Sequential = 2
count_of Override = 2
count_of Mixed = 4

-- the table has so many levels
abbrev pub HasSize : ℕ → LeafTable → Type 0
HasSize size t = t.size ≡ size

-- there is a table for each member, and all have so many levels
pub record Suits (shape : Shape) (size : ℕ) (tables : List LeafTable) : Type 0 where
  pub count : length tables ≡ count_of shape
  pub sizes : AllByRecursion (HasSize size) tables

-- a rule has one of so many levels, and a normal match
pub record FitsIn (size : ℕ) (r : Rule) : Type 0 where
  pub below : r.level < size
  pub normal : IsNormal r.m

-- a change of a member's rules to rules that fit
pub record Fits (shape : Shape) (size : ℕ) (delta : LeafDelta) : Type 0 where
  pub member : delta.member < count_of shape
  pub come : AllByRecursion (FitsIn size) delta.come

-- a compiled expression of a shape whose members have so many levels
pub record IsComposed (shape : Shape) (size : ℕ) (t : TreeOf) : Type 0 where
  pub policy : policy_in t ≡ policy_by shape
  pub sizes : ℕ → ℕ
  pub rules : ℕ → List Rule
  pub of : IsOf sizes rules t
  pub each : (i : ℕ) → i < count_of shape → sizes i ≡ size

-- a change of the rules of one of the members, to rules that the member can have
pub record CanTake (delta : LeafDelta) (t : TreeOf) : Type 0 where
  pub member : has_member delta.member t ≡ true
  pub come : IsMemberDelta delta t
