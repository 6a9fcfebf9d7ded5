-- Counts of members' entries, and the leaves of entries that still matter.
use Rattle.std.specs.Prelude.{ℕ, ◌+◌, Bool, not, List, ◌++◌, filter, flat_map, map}
use Rattle.std.specs.List.{enumerate_from, list_any}
use Rattle.cv_io.specs.Leaves.{same_leaf}
use Rattle.cv_io.specs.declared.leaf.Leaf.{Leaf}
use Rattle.member_table.specs.declared.entry.Entry.{Entry}
use Rattle.stats_map.specs.Counting.{count}
use Rattle.switch_meaning.specs.Counts.{Numbers}
use Rattle.machine_meaning.specs.States.{MemberOf, State}
use Rattle.machine_meaning.specs.declared.state.Owed.{Owed}

-- the leaf of a member's entry by its serial number
abbrev pub leaf_at : ℕ → ℕ → Leaf
leaf_at n serial = record { member = n; kind = 2 + serial }

-- the leaf of an entry of a member
abbrev pub leaf_of : ℕ → Entry → Leaf
leaf_of n e = leaf_at n e.serial

-- the count of a member's entry by its serial number
abbrev pub count_of : State → ℕ → ℕ → Numbers
count_of s n serial = count s.counts (leaf_at n serial)

-- the leaves that still matter: those of entries in tables, and of removed entries whose FLOW_REMOVED is owed
abbrev pub leaves_in : ℕ × MemberOf → List Leaf
leaves_in (n, x) = map (leaf_of n) x.kept.table.entries

abbrev pub leaves_among : List MemberOf → List Owed → List Leaf
leaves_among members owed =
    flat_map leaves_in (enumerate_from 0 members) ++ map (λ (o : Owed). leaf_of o.member o.entry) owed

abbrev pub leaves_of : State → List Leaf
leaves_of s = leaves_among s.members s.owed

-- a leaf is one of these
abbrev pub is_one_of : List Leaf → Leaf → Bool
is_one_of leaves leaf = list_any (same_leaf leaf) leaves

-- the leaves that mattered in one state and don't in another
abbrev pub dropped_between : State → State → List Leaf
dropped_between before after = filter (λ leaf. not (is_one_of (leaves_of after) leaf)) (leaves_of before)
