-- The leaves that a trace uses are those that the best composed rule is made of.
use Rattle.std.specs.Prelude.{◌≡◌, ℕ, true, Option, Some, None, if◌then◌else◌, List, filter_map, flat_map, slice_get}
use Rattle.cv_io.specs.declared.leaf.Leaf.{Leaf}
use Rattle.of10_match.specs.Fields.{HeaderOf}
use Rattle.policy_expr.specs.Policy.{Policy}
use Rattle.policy_meaning.specs.Best.{IsBest}
use Rattle.policy_meaning.specs.CentralFact.{EachMember}
use Rattle.policy_meaning.specs.EveryNode.{HasSoundTable, IsSoundNetwork}
use Rattle.policy_meaning.specs.Fitting.{composed_of}
use Rattle.policy_meaning.specs.Hops.{node}
use Rattle.policy_meaning.specs.Leaf.{has_port}
use Rattle.policy_meaning.specs.Networks.{enters, fabric_of}
use Rattle.policy_meaning.specs.declared.leaf.LeafTable.{LeafTable}
use Rattle.policy_meaning.specs.declared.network.Network.{Network}
use Rattle.policy_meaning.specs.declared.rule.Rule.{Rule}
use Rattle.explain_path.specs.Traces.{asked, trace}
use Rattle.explain_path.specs.declared.trace.HopTrace.{HopTrace}
use Rattle.explain_path.specs.declared.trace.LeafTrace.{LeafTrace}

-- the leaf that is used, if it is
abbrev pub used_leaf : LeafTrace → Option Leaf
used_leaf l = if l.used then Some (record { member = l.member; kind = l.kind }) else None

abbrev pub used_leaves : List LeafTrace → List Leaf
used_leaves leaves = filter_map used_leaf leaves

-- those of all evaluations, in order
abbrev pub used_of : List HopTrace → List Leaf
used_of hops = flat_map (λ (hop : HopTrace). used_leaves hop.leaves) hops

-- of the rules of an expression over sound tables: whichever is best for a header, these are its leaves
abbrev pub UsedOfExpressions : Type 0
UsedOfExpressions =
    (tables : List LeafTable) (ports : List ℕ) (e : Policy) → EachMember (λ i. HasSoundTable (slice_get tables i)) e
    → (h : HeaderOf) → has_port ports h.in_port ≡ true
    → (r : Rule) → IsBest h (composed_of tables ports e).rules r → r.ancestry ≡ used_leaves (asked tables e h)

-- and of those of each node, for every header that can come by its port
abbrev pub UsedOfNodes : Type 0
UsedOfNodes =
    (net : Network) → IsSoundNetwork net → (n v : ℕ) (h : HeaderOf) → enters net v h ≡ true
    → (r : Rule) → IsBest h (node (fabric_of net) n v h.in_port) r → r.ancestry ≡ used_of (trace net n v h)
