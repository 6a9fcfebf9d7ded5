-- Numbers that fit the 64 bits in which levels and kinds of leaves are kept.
use Rattle.std.specs.Prelude.{ℕ, ◌+◌, ◌<◌, ◌^◌, List, All, slice_get}
use Rattle.policy_expr.specs.Policy.{Policy}
use Rattle.policy_expr.specs.Sizes.{size_of}
use Rattle.policy_meaning.specs.Best.{Below}
use Rattle.policy_meaning.specs.Hops.{node, hop_size}
use Rattle.policy_meaning.specs.LeafFact.{IsSoundTable}
use Rattle.policy_meaning.specs.Networks.{fabric_of, table_rules, table_size}
use Rattle.policy_meaning.specs.Rules.{rules_of}
use Rattle.policy_meaning.specs.declared.leaf.LeafEntry.{LeafEntry}
use Rattle.policy_meaning.specs.declared.leaf.LeafTable.{LeafTable}
use Rattle.policy_meaning.specs.declared.network.Network.{Network}
use Rattle.policy_meaning.specs.declared.scratch.Composed.{Composed}

-- the serial of each entry leaves room for the kind of its leaf
abbrev pub SerialsFit : LeafTable → Type 0
SerialsFit t = All (λ (e : LeafEntry). 2 + e.serial < 2 ^ 64) t.entries

-- a table has a level for a miss above that for outside, its entries' levels are below its size, and its serials fit
pub record IsFittingTable (t : LeafTable) : Type 0 where
  pub room : 1 < t.size
  pub levels : All (λ (e : LeafEntry). e.level < t.size) t.entries
  pub serials : SerialsFit t

-- how many levels the rules of an expression over these tables have
abbrev pub levels_of : List LeafTable → Policy → ℕ
levels_of tables e = size_of (λ i. table_size (slice_get tables i)) e

-- the rules of an expression over these tables, and how many levels they have
abbrev pub composed_of : List LeafTable → List ℕ → Policy → Composed
composed_of tables ports e = record {
  rules = rules_of (λ i. table_size (slice_get tables i)) (λ i. table_rules ports (slice_get tables i)) e;
  size = levels_of tables e;
}

-- each rule's level is below the number of levels
abbrev pub AreBelow : Composed → Type 0
AreBelow c = All (Below c.size) c.rules

-- over tables that fit, the levels of an expression's rules are below its size
abbrev pub RulesAreBelow : Type 0
RulesAreBelow = (tables : List LeafTable) (ports : List ℕ) (e : Policy) → All IsFittingTable tables
    → AreBelow (composed_of tables ports e)

-- and those of a node's rules below the node's
abbrev pub NodesAreBelow : Type 0
NodesAreBelow =
    (net : Network) → All IsFittingTable net.tables
    → (n v port : ℕ) → All (Below (hop_size (fabric_of net) n v)) (node (fabric_of net) n v port)

-- a sound table fits if its serials do
abbrev pub SoundTablesFit : Type 0
SoundTablesFit = (t : LeafTable) → IsSoundTable t → SerialsFit t → IsFittingTable t
