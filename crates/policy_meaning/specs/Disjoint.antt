-- Rules that are made of the same leaves hold different headers.
use Rattle.std.specs.Prelude.{◌≡◌, ◌≢◌, ℕ, false, ◌==◌, Some, List, ◌++◌, slice_get}
use Rattle.std.specs.List.{AllByRecursion}
use Rattle.cv_io.specs.declared.leaf.Leaf.{Leaf}
use Rattle.of10_match.specs.Matching.{overlaps}
use Rattle.of10_match.specs.Normal.{IsNormal}
use Rattle.policy_expr.specs.Policy.{Policy, members_of}
use Rattle.policy_meaning.specs.CentralFact.{EachMember}
use Rattle.policy_meaning.specs.Fitting.{composed_of}
use Rattle.policy_meaning.specs.Hops.{node}
use Rattle.policy_meaning.specs.LeafFact.{EachPair}
use Rattle.policy_meaning.specs.LeafRules.{leaf_rules}
use Rattle.policy_meaning.specs.Networks.{fabric_of}
use Rattle.policy_meaning.specs.Switches.{SwitchOf}
use Rattle.policy_meaning.specs.declared.leaf.LeafEntry.{LeafEntry}
use Rattle.policy_meaning.specs.declared.leaf.LeafTable.{LeafTable}
use Rattle.policy_meaning.specs.declared.network.Network.{Network}
use Rattle.policy_meaning.specs.declared.rule.Rule.{Rule}

-- an ancestry begins with another one, or equals it
abbrev pub Begins : List Leaf → List Leaf → Type 0
Begins ancestry front = (rest : List Leaf) × (ancestry ≡ front ++ rest)

-- where the ancestry of one rule begins with that of the other, or equals it, no header is in both
pub record AreDisjoint (a b : Rule) : Type 0 where
  pub first : Begins a.ancestry b.ancestry → overlaps a.m b.m ≡ false
  pub second : Begins b.ancestry a.ancestry → overlaps a.m b.m ≡ false

-- each two of some rules are so
abbrev pub AreAllDisjoint : List Rule → Type 0
AreAllDisjoint rules = EachPair AreDisjoint rules

-- no two entries of a member's table have one serial, no two boxes of its region overlap, and no port is named twice
pub record IsOrderly (t : LeafTable) : Type 0 where
  pub serials : EachPair (λ (d e : LeafEntry). d.serial ≢ e.serial) t.entries
  pub boxes : EachPair (λ m n. overlaps m n ≡ false) t.region
  pub visible : EachPair (λ p q. (q == p) ≡ false) t.visible

-- the matches of its entries and of its region are normal
pub record HasNormalMatches (t : LeafTable) : Type 0 where
  pub entries : AllByRecursion (λ (e : LeafEntry). IsNormal e.m) t.entries
  pub boxes : AllByRecursion IsNormal t.region

-- a table of the member of this number
pub record IsTableOfMember (i : ℕ) (t : LeafTable) : Type 0 where
  pub member : t.member ≡ i
  pub orderly : IsOrderly t
  pub normal : HasNormalMatches t

-- the member's table, if it has one, is such
abbrev pub HasOrderlyTable : List LeafTable → ℕ → Type 0
HasOrderlyTable tables i = (t : LeafTable) → slice_get tables i ≡ Some t → IsTableOfMember i t

-- no member stands twice in an expression, and each has such a table
pub record IsOrderlyPolicy (tables : List LeafTable) (e : Policy) : Type 0 where
  pub once : EachPair (λ i j. i ≢ j) (members_of e)
  pub members : EachMember (HasOrderlyTable tables) e

-- of the rules of a table
abbrev pub LeafRulesAreDisjoint : Type 0
LeafRulesAreDisjoint = (ports : List ℕ) (t : LeafTable) → IsOrderly t → AreAllDisjoint (leaf_rules ports t)

-- of the rules of an expression by itself
abbrev pub RulesAreDisjoint : Type 0
RulesAreDisjoint = (tables : List LeafTable) (ports : List ℕ) (e : Policy) → IsOrderlyPolicy tables e
    → AreAllDisjoint (composed_of tables ports e).rules

-- of the rules of each node, through hops
abbrev pub NodesAreDisjoint : Type 0
NodesAreDisjoint =
    (net : Network) → ((v : ℕ) (s : SwitchOf) → slice_get net.switches v ≡ Some s → IsOrderlyPolicy net.tables s.expr)
    → (n v port : ℕ) → AreAllDisjoint (node (fabric_of net) n v port)

-- so two rules of one ancestry have different matches
abbrev pub DisjointRulesDiffer : Type 0
DisjointRulesDiffer = (a b : Rule) → AreDisjoint a b → a.ancestry ≡ b.ancestry → a.m ≢ b.m
