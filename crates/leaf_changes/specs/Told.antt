-- What is told of a member's table that changes.
use Rattle.std.specs.Prelude.{ℕ, ◌+◌, ◌<◌, ◌^◌, ◌++◌, Bool, false, nat_le, Option, Some, None, List, IsPermutation}
use Rattle.std.specs.Prelude.{filter, slice_get}
use Rattle.std.specs.List.{AllByRecursion}
use Rattle.cv_io.specs.declared.leaf.Leaf.{Leaf}
use Rattle.grants.specs.declared.grant.Grant.{Grant}
use Rattle.of10_match.specs.Normal.{IsNormal}
use Rattle.policy_meaning.specs.declared.leaf.LeafEntry.{LeafEntry}
use Rattle.policy_meaning.specs.declared.leaf.LeafTable.{LeafTable}
use Rattle.policy_meaning.specs.declared.rule.Rule.{Rule}
use Rattle.leaf_changes.specs.Leaves.{DiffersAt, entries_among}
use Rattle.leaf_changes.specs.Touched.{has_kind}

-- an entry as rules are made of it, in a table of so many levels
pub record IsFitting (size : ℕ) (e : LeafEntry) : Type 0 where
  pub normal : IsNormal e.m
  pub below : e.level < size
  pub serial : 2 + e.serial < 2 ^ 64

-- the second table differs from the first in the entries of these numbers alone, and these are the ones that it has
pub record IsTold (t u : LeafTable) (serials : List ℕ) (come : List LeafEntry) : Type 0 where
  pub differs : DiffersAt (filter has_kind serials) t u
  pub are : IsPermutation come (entries_among (filter has_kind serials) u.entries)
  pub fitting : AllByRecursion (IsFitting u.size) come

-- the table of the member of this number with this grant, of so many levels, with these entries
abbrev pub table_with : ℕ → Grant → ℕ → List LeafEntry → LeafTable
table_with i g size entries = record {
  member = i;
  size = size;
  region = g.regions;
  visible = g.ports.outside ++ g.ports.links;
  misses = g.misses;
  entries = entries;
}

-- the leaf is that of an entry: those of lower kinds are of headers outside, and of misses
abbrev pub is_entry_leaf : Option Leaf → Bool
is_entry_leaf None = false
is_entry_leaf (Some l) = nat_le 2 l.kind

-- the rule is of an entry
abbrev pub is_of_entry : Rule → Bool
is_of_entry r = is_entry_leaf (slice_get r.ancestry 0)
