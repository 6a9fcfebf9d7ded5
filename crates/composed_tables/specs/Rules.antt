-- The composed rules of a setting: those of the expression of each virtual switch, and those of its ports through hops.
use Rattle.std.specs.Prelude.{◌≡◌, ◌≢◌, ◌==◌, ℕ, ◌<◌, ◌^◌, All, Bool, true, false, Contains, Some, List, [], ◌∷◌, ◌++◌}
use Rattle.std.specs.Prelude.{length, map, slice_get, IsPermutation}
use Rattle.std.specs.List.{AllByRecursion}
use Rattle.agreement.specs.declared.state.Setting.{Setting}
use Rattle.hop_rules.specs.Links.{links, place}
use Rattle.hop_rules.specs.Tables.{AreDeltas, AreOfPorts, TableOf, fabric, is_whole, own_ports, rules_at as rules_kept}
use Rattle.hop_rules.specs.declared.delta.PortDelta.{PortDelta}
use Rattle.incr_compile.specs.Compiling.{IsMemberDelta, IsOf, IsOfTables, MemberChanges, policy_in, rules_at}
use Rattle.incr_compile.specs.Trees.{IsTree, TreeOf, has_member, tree_of}
use Rattle.incr_compile.specs.declared.compiled.LeafDelta.{LeafDelta}
use Rattle.incr_compile.specs.declared.tree.Tree.{Tree}
use Rattle.list_change.specs.Changes.{Apart, Changed}
use Rattle.of10_match.specs.Normal.{IsNormal}
use Rattle.op_compose.specs.declared.delta.RuleDelta.{RuleDelta}
use Rattle.policy_expr.specs.Policy.{members_of}
use Rattle.policy_meaning.specs.Fitting.{IsFittingTable, levels_of}
use Rattle.policy_meaning.specs.LeafFact.{EachPair, IsSoundTable}
use Rattle.policy_meaning.specs.Networks.{fabric_of, ports_of, switch_links}
use Rattle.policy_meaning.specs.Switches.{SwitchOf}
use Rattle.policy_meaning.specs.declared.leaf.LeafTable.{LeafTable}
use Rattle.policy_meaning.specs.declared.network.Link.{Link}
use Rattle.policy_meaning.specs.declared.network.Network.{Network}
use Rattle.policy_meaning.specs.declared.rule.Rule.{Rule}
use Rattle.virtual_topology.specs.declared.plan.TopologyPlan.{TopologyPlan}
use Rattle.virtual_topology.specs.Wires.{Joint, outside_joints}

-- a compiled expression for each virtual switch, and the table of hops
pub record RulesOf : Type 0 where
  pub trees : List Tree
  pub sizes : List ℕ
  pub whole : List Bool
  pub hops : TableOf

-- the rules of the expression of a virtual switch, as they were handed over to the table of hops
abbrev pub IsTied : RulesOf → ℕ → Tree → Type 0
IsTied r v t = is_whole r.hops v ≡ false → IsPermutation (rules_at (tree_of t)) (rules_kept r.hops v)

-- each compiled expression is a sound tree
abbrev pub AreSound : List Tree → Type 0
AreSound trees = (v : ℕ) (t : Tree) → slice_get trees v ≡ Some t → IsTree (tree_of t)

-- so it is for each virtual switch, the table has its sizes, and isn't lost
pub record AreTied (r : RulesOf) : Type 0 where
  pub kept : r.hops.lost ≡ false
  pub sizes : r.hops.sizes ≡ r.sizes
  pub wholes : r.hops.whole ≡ r.whole
  pub count : length r.sizes ≡ length r.trees
  pub count_whole : length r.whole ≡ length r.trees
  pub sound : AreSound r.trees
  pub each : (v : ℕ) (t : Tree) → slice_get r.trees v ≡ Some t → IsTied r v t

-- the compiled expression is that of a virtual switch over these tables
pub record IsTreeOf (tables : List LeafTable) (x : SwitchOf) (t : Tree) : Type 0 where
  pub policy : policy_in (tree_of t) ≡ x.expr
  pub tables_are : IsOfTables tables (ports_of x) (tree_of t)

-- the link leads to a virtual switch that isn't all of its physical switch
pub record LeadsToParted (net : Network) (l : Link) : Type 0 where
  pub to : SwitchOf
  pub there : slice_get net.switches l.peer.v ≡ Some to
  pub parted : to.whole ≡ false

-- the table of hops has the links, sizes and outside ports of a setting
pub record IsLaidOut (s : Setting) (t : TableOf) : Type 0 where
  pub hops : t.hops ≡ s.hops
  pub count : length t.plan.virtuals ≡ length s.network.switches
  pub sizes : (v : ℕ) → (fabric t).sizes v ≡ (fabric_of s.network).sizes v
  pub links_are : (v : ℕ) → links t.plan v ≡ switch_links (slice_get s.network.switches v)
  pub leads : (v : ℕ) → AllByRecursion (LeadsToParted s.network) (links t.plan v)
  pub whole : (v : ℕ) (x : SwitchOf) → slice_get s.network.switches v ≡ Some x → is_whole t v ≡ x.whole
  pub ports : (v : ℕ) (x : SwitchOf) → slice_get s.network.switches v ≡ Some x → x.whole ≡ false
      → AllByRecursion (λ (p : ℕ). Contains (own_ports t) (record { v = v; port = p })) x.outside

-- exactly what the deltas say went and came at each port that has rules of its own, and nothing at other places
pub record ArePortDeltas (before after : TableOf) (deltas : List PortDelta) : Type 0 where
  pub ports : AreDeltas before after deltas
  pub others : AreOfPorts before deltas

-- a virtual switch can take the change: the member is one of its expression, and what comes are rules of the member
pub record CanChangeAt (trees : List Tree) (v : ℕ) (delta : LeafDelta) : Type 0 where
  pub there : v < length trees
  pub member : (t : Tree) → slice_get trees v ≡ Some t → has_member delta.member (tree_of t) ≡ true
  pub come : (t : Tree) → slice_get trees v ≡ Some t → IsMemberDelta delta (tree_of t)

abbrev pub CanTake : RulesOf → ℕ → LeafDelta → Type 0
CanTake r v delta = CanChangeAt r.trees v delta

-- a compiled expression changed so with a member, and told what went and what came
pub record IsTreeChanged (delta : LeafDelta) (told : RuleDelta) (before after : TreeOf) : Type 0 where
  pub sound : IsTree after
  pub policy : policy_in after ≡ policy_in before
  pub members : (sizes : ℕ → ℕ) (rules rules' : ℕ → List Rule) → MemberChanges delta rules rules'
      → IsOf sizes rules before → IsOf sizes rules' after
  pub rules : Changed (rules_at before) (rules_at after) told.gone told.come
  pub apart : Apart told.gone told.come

-- that of one virtual switch did, and all others are as they were
pub record IsChangedAt (v : ℕ) (delta : LeafDelta) (before after : List Tree) (told : RuleDelta) : Type 0 where
  pub long : length after ≡ length before
  pub others : (u : ℕ) → (u == v) ≡ false → slice_get after u ≡ slice_get before u
  pub changed : (t u : Tree) → slice_get before v ≡ Some t → slice_get after v ≡ Some u
      → IsTreeChanged delta told (tree_of t) (tree_of u)

-- a rule has a level below so many, and a normal match
pub record IsFitting (size : ℕ) (r : Rule) : Type 0 where
  pub below : r.level < size
  pub normal : IsNormal r.m

-- the trees of the first so many virtual switches are those over these tables
abbrev pub AreTreesOf : Network → List Tree → Type 0
AreTreesOf net trees =
    (v : ℕ) (x : SwitchOf) (t : Tree) → slice_get net.switches v ≡ Some x → slice_get trees v ≡ Some t
    → IsTreeOf net.tables x t

-- one compiled expression more, that of a virtual switch
pub record IsAdded (tables : List LeafTable) (x : SwitchOf) (before after : List Tree) : Type 0 where
  pub tree : Tree
  pub added : after ≡ before ++ tree ∷ []
  pub of : IsTreeOf tables x tree
  pub sound : IsTree (tree_of tree)

-- a setting whose tables are sound, whose expressions name each member once, and have few levels
pub record CanCompile (net : Network) : Type 0 where
  pub fit : All IsFittingTable net.tables
  pub sound : AllByRecursion IsSoundTable net.tables
  pub once : (v : ℕ) (x : SwitchOf) → slice_get net.switches v ≡ Some x → EachPair (λ i j. i ≢ j) (members_of x.expr)
  pub size : (v : ℕ) (x : SwitchOf) → slice_get net.switches v ≡ Some x → levels_of net.tables x.expr < 2 ^ 64

-- these are the composed rules of a setting
pub record AreRulesOf (s : Setting) (r : RulesOf) : Type 0 where
  pub count : length r.trees ≡ length s.network.switches
  pub trees_are : AreTreesOf s.network r.trees
  pub laid_out : IsLaidOut s r.hops

-- a port is an outside port of a virtual switch
abbrev pub IsOutside : TopologyPlan → ℕ → ℕ → Type 0
IsOutside plan v p = Contains (map (λ (j : Joint). place j.0) (outside_joints plan)) (record { v = v; port = p })

-- a topology and a setting of it whose expressions can be compiled, where links lead to virtual switches that aren't
-- whole
pub record IsReadyFor (plan : TopologyPlan) (s : Setting) : Type 0 where
  pub can : CanCompile s.network
  pub count : length s.network.switches ≡ length plan.virtuals
  pub links_are : (v : ℕ) → links plan v ≡ switch_links (slice_get s.network.switches v)
  pub leads : (v : ℕ) → AllByRecursion (LeadsToParted s.network) (links plan v)
  pub ports : (v : ℕ) (x : SwitchOf) → slice_get s.network.switches v ≡ Some x
      → AllByRecursion (IsOutside plan v) x.outside

-- the table of hops keeps all but the rules
abbrev pub KeepsRest : TableOf → TableOf → Type 0
KeepsRest before after = after ≡ record before { rules = after.rules }

-- the rules of a virtual switch were handed over, unless they are for all ports at once
pub record IsHandedOver (v : ℕ) (trees : List Tree) (before after : TableOf) : Type 0 where
  pub rest : KeepsRest before after
  pub others : (u : ℕ) → (u == v) ≡ false → rules_kept after u ≡ rules_kept before u
  pub own : (t : Tree) → slice_get trees v ≡ Some t → is_whole before v ≡ false
      → IsPermutation (rules_at (tree_of t)) (rules_kept after v)

-- so were those of all
pub record AreHandedOver (trees : List Tree) (before after : TableOf) : Type 0 where
  pub rest : KeepsRest before after
  pub each : (v : ℕ) (t : Tree) → slice_get trees v ≡ Some t → is_whole before v ≡ false
      → IsPermutation (rules_at (tree_of t)) (rules_kept after v)

-- a table of hops of these sizes that no rules were handed over to
pub record IsEmptyTable (sizes : List ℕ) (whole : List Bool) (t : TableOf) : Type 0 where
  pub kept : t.lost ≡ false
  pub sizes_are : t.sizes ≡ sizes
  pub wholes : t.whole ≡ whole
  pub none : (v : ℕ) → rules_kept t v ≡ []
