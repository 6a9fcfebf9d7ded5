-- From tables, levels, expressions and links to every node.
use Rattle.std.specs.Prelude.{◌≡◌, ℕ, true, false, Option, Some, None, List, slice_get}
use Rattle.std.specs.List.{AllByRecursion}
use Rattle.of10_match.specs.Fields.{HeaderOf}
use Rattle.policy_expr.specs.Policy.{Policy}
use Rattle.policy_meaning.specs.Best.{IsSound, Says}
use Rattle.policy_meaning.specs.Fitting.{composed_of, levels_of}
use Rattle.policy_meaning.specs.Leaf.{has_port}
use Rattle.policy_meaning.specs.LeafFact.{IsSoundTable}
use Rattle.policy_meaning.specs.Meaning.{evaluate}
use Rattle.policy_meaning.specs.CentralFact.{ArePlain, EachMember, EachLeft}
use Rattle.policy_meaning.specs.Networks.{fabric_of, ground_of, enters, table_meaning, switch_has, switch_spread}
use Rattle.policy_meaning.specs.Networks.{switch_links}
use Rattle.policy_meaning.specs.Hops.{node, hop_size, peer_of}
use Rattle.policy_meaning.specs.HopFact.{HopSays}
use Rattle.policy_meaning.specs.Walk.{walk}
use Rattle.policy_meaning.specs.declared.leaf.LeafEntry.{LeafEntry}
use Rattle.policy_meaning.specs.declared.leaf.LeafTable.{LeafTable}
use Rattle.policy_meaning.specs.declared.network.Place.{Place}
use Rattle.policy_meaning.specs.declared.network.VirtualSwitch.{VirtualSwitch}
use Rattle.policy_meaning.specs.declared.network.Network.{Network}

-- the member has a table, which is sound
abbrev pub HasSoundTable : Option LeafTable → Type 0
HasSoundTable None = ⊥
HasSoundTable (Some t) = IsSoundTable t

-- no entry of the member's table sets a field or has a tail
abbrev pub HasPlainTable : Option LeafTable → Type 0
HasPlainTable None = Unit {0}
HasPlainTable (Some t) = AllByRecursion (λ (e : LeafEntry). ArePlain e.effects.outs e.effects.tail) t.entries

-- each member of the virtual switch has a sound table, and those of left operands of `+` set nothing and pass nothing
-- on
pub record IsSoundSwitch (tables : List LeafTable) (s : VirtualSwitch) : Type 0 where
  pub members : EachMember (λ i. HasSoundTable (slice_get tables i)) s.expr
  pub lefts : EachLeft (λ i. HasPlainTable (slice_get tables i)) s.expr

-- what is asked of a network
pub record IsSoundNetwork (net : Network) : Type 0 where
  pub switches : (v : ℕ) (s : VirtualSwitch) → slice_get net.switches v ≡ Some s → IsSoundSwitch net.tables s
  -- a link leads to a port of a virtual switch that isn't spread
  pub peers :
      (v p : ℕ) (q : Place) → peer_of (switch_links (slice_get net.switches v)) p ≡ Some q
      → (switch_has (slice_get net.switches q.v) q.port ≡ true) × (switch_spread (slice_get net.switches q.v) ≡ false)

-- at every node, for every header that can come by its port, exactly one rule is best, below the node's size, and does
-- what the walk gives
abbrev pub EveryNode : Type 0
EveryNode =
    (net : Network) → IsSoundNetwork net → (n v : ℕ) (h : HeaderOf) → enters net v h ≡ true
    → HopSays h (node (fabric_of net) n v h.in_port) (hop_size (fabric_of net) n v) (walk (ground_of net) n v h)

-- of an expression over sound tables exactly one rule is best for each header that comes by one of these ports, below
-- the
-- expression's size, and it does what the expression does
abbrev pub EveryExpression : Type 0
EveryExpression =
    (tables : List LeafTable) (ports : List ℕ) (e : Policy) → EachMember (λ i. HasSoundTable (slice_get tables i)) e
    → (h : HeaderOf) → has_port ports h.in_port ≡ true
    → Says h (composed_of tables ports e).rules (levels_of tables e)
    (evaluate (λ i. table_meaning (slice_get tables i)) e h)

-- and where those of left operands of `+` set nothing and pass nothing on, one list of actions can do what each rule
-- does
abbrev pub ExpressionsAreSound : Type 0
ExpressionsAreSound =
    (tables : List LeafTable) (ports : List ℕ) (e : Policy) → EachMember (λ i. HasSoundTable (slice_get tables i)) e
    → EachLeft (λ i. HasPlainTable (slice_get tables i)) e → AllByRecursion IsSound (composed_of tables ports e).rules
