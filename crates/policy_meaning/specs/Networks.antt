-- A network's tables, expressions and links, as evaluation, rules and walks read them.
use Rattle.std.specs.Prelude.{ℕ, Bool, false, ◌&&◌, Option, Some, None, List, [], ◌∷◌, ◌++◌, if◌then◌else◌, map}
use Rattle.std.specs.Prelude.{slice_get}
use Rattle.of10_match.specs.Fields.{HeaderOf}
use Rattle.policy_expr.specs.Sizes.{size_of}
use Rattle.policy_meaning.specs.Meaning.{evaluate}
use Rattle.policy_meaning.specs.Leaf.{outside, leaf_meaning, has_port}
use Rattle.policy_meaning.specs.LeafRules.{leaf_rules}
use Rattle.policy_meaning.specs.Rules.{rules_of}
use Rattle.policy_meaning.specs.Hops.{Fabric, node}
use Rattle.policy_meaning.specs.Walk.{Ground, takes}
use Rattle.policy_meaning.specs.declared.fabric.Entering.{Entering}
use Rattle.policy_meaning.specs.declared.leaf.LeafTable.{LeafTable}
use Rattle.policy_meaning.specs.declared.meaning.Meaning.{Meaning}
use Rattle.policy_meaning.specs.declared.network.Link.{Link}
use Rattle.policy_meaning.specs.declared.network.VirtualSwitch.{VirtualSwitch}
use Rattle.policy_meaning.specs.declared.network.Network.{Network}
use Rattle.policy_meaning.specs.declared.rule.Rule.{Rule}

-- the ports of a virtual switch
abbrev pub ports_of : VirtualSwitch → List ℕ
ports_of s = s.outside ++ map (λ (l : Link). l.port) s.links

-- what a member does; without a table nothing
abbrev pub table_meaning : Option LeafTable → HeaderOf → Meaning
table_meaning None h = outside
table_meaning (Some t) h = leaf_meaning t h

-- the rules of a member at a virtual switch of these ports; without a table there is none
abbrev pub table_rules : List ℕ → Option LeafTable → List Rule
table_rules ports None = []
table_rules ports (Some t) = leaf_rules ports t

-- how many levels a member has; without a table one
abbrev pub table_size : Option LeafTable → ℕ
table_size None = 1
table_size (Some t) = t.size

-- what the expression of a virtual switch does
abbrev pub switch_meaning : List LeafTable → Option VirtualSwitch → HeaderOf → Meaning
switch_meaning tables None h = outside
switch_meaning tables (Some s) h = evaluate (λ i. table_meaning (slice_get tables i)) s.expr h

-- the rules of the expression of a virtual switch
abbrev pub switch_rules : List LeafTable → Option VirtualSwitch → List Rule
switch_rules tables None = []
switch_rules tables (Some s) = rules_of (λ i. table_size (slice_get tables i))
    (λ i. table_rules (ports_of s) (slice_get tables i)) s.expr

-- how many levels these have
abbrev pub switch_size : List LeafTable → Option VirtualSwitch → ℕ
switch_size tables None = 1
switch_size tables (Some s) = size_of (λ i. table_size (slice_get tables i)) s.expr

-- the links of a virtual switch
abbrev pub switch_links : Option VirtualSwitch → List Link
switch_links None = []
switch_links (Some s) = s.links

-- whether it is spread over several physical switches
abbrev pub switch_spread : Option VirtualSwitch → Bool
switch_spread None = false
switch_spread (Some s) = s.spread

-- whether it has the port
abbrev pub switch_has : Option VirtualSwitch → ℕ → Bool
switch_has None p = false
switch_has (Some s) p = has_port (ports_of s) p

-- the network as hops see it
abbrev pub fabric_of : Network → Fabric
fabric_of net = record {
  rules = λ v. switch_rules net.tables (slice_get net.switches v);
  sizes = λ v. switch_size net.tables (slice_get net.switches v);
  links = λ v. switch_links (slice_get net.switches v);
}

-- the network as a walk sees it
abbrev pub ground_of : Network → Ground
ground_of net = record {
  means = λ v. switch_meaning net.tables (slice_get net.switches v);
  links = λ v. switch_links (slice_get net.switches v);
  spread = λ v. switch_spread (slice_get net.switches v);
}

-- a packet of this header can come to the virtual switch and is taken there
abbrev pub enters : Network → ℕ → HeaderOf → Bool
enters net v h = switch_has (slice_get net.switches v) h.in_port && takes (switch_spread (slice_get net.switches v)) h

-- the rules that are put on a physical switch for a virtual switch: of each outside port those of its node, of a
-- whole virtual switch those of its expression, once for all ports
abbrev pub entering : Network → ℕ → ℕ → Option VirtualSwitch → List Entering
entering net hops v None = []
entering net hops v (Some s) =
    if s.whole
    then record { port = None; rules = switch_rules net.tables (Some s) } ∷ []
    else map (λ p. record { port = Some p; rules = node (fabric_of net) hops v p }) s.outside
