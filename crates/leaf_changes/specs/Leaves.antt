-- How the rules of a member change with some entries of its table.
use Rattle.std.specs.Prelude.{◌≡◌, ℕ, ◌+◌, not, List, IsPermutation, filter, flat_map, map}
use Rattle.cv_io.specs.declared.leaf.Leaf.{Leaf}
use Rattle.incr_compile.specs.Compiling.{rules_after}
use Rattle.incr_compile.specs.declared.compiled.LeafDelta.{LeafDelta}
use Rattle.member_table.specs.Changes.{is_among}
use Rattle.policy_meaning.specs.LeafRules.{cells, entry_rule, in_cells, leaf_rules}
use Rattle.policy_meaning.specs.declared.leaf.LeafEntry.{LeafEntry}
use Rattle.policy_meaning.specs.declared.leaf.LeafTable.{LeafTable}
use Rattle.policy_meaning.specs.declared.rule.Rule.{Rule}

-- the leaf of the entry of a number
abbrev pub leaf_at : ℕ → ℕ → Leaf
leaf_at member serial = record { member = member; kind = 2 + serial }

-- the entries of these numbers, and all others
abbrev pub entries_among : List ℕ → List LeafEntry → List LeafEntry
entries_among serials es = filter (λ (e : LeafEntry). is_among serials e.serial) es

abbrev pub entries_apart : List ℕ → List LeafEntry → List LeafEntry
entries_apart serials es = filter (λ (e : LeafEntry). not (is_among serials e.serial)) es

-- the rules of some entries of a table
abbrev pub entry_rules : List ℕ → LeafTable → List LeafEntry → List Rule
entry_rules ports t es = flat_map (in_cells (cells ports t)) (map (entry_rule t) es)

-- the leaves of these numbers go, and the rules of these entries come
abbrev pub delta_of : List ℕ → LeafTable → List ℕ → List LeafEntry → LeafDelta
delta_of ports t serials es = record {
  member = t.member;
  gone = map (leaf_at t.member) serials;
  come = entry_rules ports t es;
}

-- the second table differs from the first in the entries of these numbers alone
pub record DiffersAt (serials : List ℕ) (t u : LeafTable) : Type 0 where
  pub rest : t ≡ record u { entries = t.entries }
  pub others : entries_apart serials t.entries ≡ entries_apart serials u.entries

-- the rules of the second are those of the first, but for the entries of these numbers
abbrev pub LeavesChange : Type 0
LeavesChange =
    (ports serials : List ℕ) (t u : LeafTable) → DiffersAt serials t u
    → IsPermutation (rules_after (delta_of ports u serials (entries_among serials u.entries)) (leaf_rules ports t))
    (leaf_rules ports u)
