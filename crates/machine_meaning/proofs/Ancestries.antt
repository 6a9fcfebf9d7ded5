-- The leaves of which rules and entries are made are those of members' tables.
use Rattle.std.proofs.Common.{ℕ, zero, suc, ◌+◌, Bool, true, false, List, [], ◌∷◌, map, Option, Some, None}
use Rattle.std.proofs.Common.{if◌then◌else◌, subst}
use Rattle.std.specs.Prelude.{filter_map, flat_map, slice_get}
use Rattle.std.specs.List.{AllByRecursion}
use Rattle.cv_io.specs.declared.leaf.Leaf.{Leaf}
use Rattle.of10_match.specs.Matching.{at_port}
use Rattle.policy_expr.specs.Policy.{Policy, member, override, parallel, sequential}
use Rattle.policy_expr.specs.Sizes.{size_of}
use Rattle.policy_meaning.specs.Hops.{Fabric, at_node, hop_rule, hop_size, hopped, hops_on, leads, node, peers_size}
use Rattle.policy_meaning.specs.Hops.{without_port}
use Rattle.policy_meaning.specs.LeafRules.{cells, entry_rule, has_outside, in_cells, leaf_rules, miss_rule}
use Rattle.policy_meaning.specs.LeafRules.{outside_rule, rule_met}
use Rattle.policy_meaning.specs.Networks.{fabric_of, ports_of, switch_rules, table_rules, table_size}
use Rattle.policy_meaning.specs.Rules.{rules_of}
use Rattle.policy_meaning.specs.Switches.{SwitchOf}
use Rattle.policy_meaning.specs.declared.leaf.LeafEntry.{LeafEntry}
use Rattle.policy_meaning.specs.declared.leaf.LeafTable.{LeafTable}
use Rattle.policy_meaning.specs.declared.network.Network.{Network}
use Rattle.policy_meaning.specs.declared.network.Onward.{Onward}
use Rattle.policy_meaning.specs.declared.rule.Rule.{Rule}
use Rattle.policy_meaning.proofs.Cells.{narrowed}
use Rattle.policy_meaning.proofs.Lists.{all-append, all-each, all-filter_map, all-flat_map, all-mapped}
use Rattle.policy_meaning.proofs.Meeting.{some_met, some_pulled}
use Rattle.policy_meaning.proofs.Pairs.{each-chain, each-shift, each-sum}

-- what holds of a table's leaves: of what is outside, of a miss, and of its entries
pub record EachLeaf (P : Leaf → Type 0) (t : LeafTable) : Type 0 where
  pub outside : P (record { member = t.member; kind = 0 })
  pub miss : P (record { member = t.member; kind = 1 })
  pub entries : AllByRecursion (λ (e : LeafEntry). P (record { member = t.member; kind = 2 + e.serial })) t.entries

-- what holds of the leaves of a rule
abbrev pub OfLeaves : (Leaf → Type 0) → Rule → Type 0
OfLeaves P r = AllByRecursion P r.ancestry

module _ (P : Leaf → Type 0) where
  outer_leaves : (t : LeafTable) → EachLeaf P t → (b : Bool)
      → AllByRecursion (OfLeaves P) (if b then outside_rule t ∷ [] else [])
  outer_leaves t h true = ((h.outside, tt), tt)
  outer_leaves t h false = tt

  table_leaves : (ports : List ℕ) (t : LeafTable) → EachLeaf P t → AllByRecursion (OfLeaves P) (leaf_rules ports t)
  table_leaves ports t h =
      all-append (OfLeaves P) (if has_outside ports t then outside_rule t ∷ [] else [])
      (flat_map (in_cells (cells ports t)) (miss_rule t ∷ map (entry_rule t) t.entries))
      (outer_leaves t h (has_outside ports t))
      (all-flat_map (OfLeaves P) (OfLeaves P) (in_cells (cells ports t)) (miss_rule t ∷ map (entry_rule t) t.entries)
      (λ a w. all-filter_map (λ m. Unit {0}) (OfLeaves P) (rule_met a) (cells ports t)
      (λ m c e _. subst (OfLeaves P) (some_met (narrowed a) a.m m c e).1 w)
      (all-each (λ m. Unit {0}) (cells ports t) (λ m. tt))) (
        (h.miss, tt),
        all-mapped (λ (e : LeafEntry). P (record { member = t.member; kind = 2 + e.serial })) (OfLeaves P)
            (entry_rule t)
            t.entries (λ e w. (w, tt)) h.entries,
      ))

  found_leaves : (tables : List LeafTable) → AllByRecursion (EachLeaf P) tables → (i : ℕ) (ports : List ℕ)
      → AllByRecursion (OfLeaves P) (table_rules ports (slice_get tables i))
  found_leaves [] h i ports = tt
  found_leaves (t ∷ ts) h zero ports = table_leaves ports t h.0
  found_leaves (t ∷ ts) h (suc i) ports = found_leaves ts h.1 i ports

  -- rules of pairs
  module _ (sizes : ℕ → ℕ) (rules : ℕ → List Rule) (own : (i : ℕ) → AllByRecursion (OfLeaves P) (rules i)) where
    composed_leaves : (e : Policy) → AllByRecursion (OfLeaves P) (rules_of sizes rules e)
    composed_leaves (member i) = own i
    composed_leaves (parallel a b) =
        each-sum (OfLeaves P) (OfLeaves P) (OfLeaves P) (λ x y p q o. all-append P x.ancestry y.ancestry p q)
        (rules_of sizes rules a) (rules_of sizes rules b) (composed_leaves a) (composed_leaves b)
    composed_leaves (sequential a b) =
        each-chain (OfLeaves P) (OfLeaves P) (OfLeaves P) (size_of sizes b) (λ x p. p)
        (λ x y r t p q o. all-append P x.ancestry y.ancestry p q)
        (rules_of sizes rules a) (rules_of sizes rules b) (composed_leaves a) (composed_leaves b)
    composed_leaves (override a b) =
        each-shift (OfLeaves P) (OfLeaves P) (OfLeaves P) (size_of sizes b) (λ x p. p)
        (rules_of sizes rules a) (rules_of sizes rules b) (composed_leaves a) (composed_leaves b)

  pub switch_leaves : (tables : List LeafTable) → AllByRecursion (EachLeaf P) tables → (o : Option SwitchOf)
      → AllByRecursion (OfLeaves P) (switch_rules tables o)
  switch_leaves tables h None = tt
  switch_leaves tables h (Some s) =
      composed_leaves (λ i. table_size (slice_get tables i)) (λ i. table_rules (ports_of s) (slice_get tables i))
      (λ i. found_leaves tables h i (ports_of s)) s.expr

  -- rules of nodes
  module _ (f : Fabric) (rules : (v : ℕ) → AllByRecursion (OfLeaves P) (f.rules v)) where
    made_leaves : (m : ℕ) → ((u port : ℕ) → AllByRecursion (OfLeaves P) (node f m u port)) → (v port size : ℕ)
        (x : Rule) → OfLeaves P x → (o : Option Onward)
        → AllByRecursion (OfLeaves P) (hops_on o (node f m) size (at_node v port x))
    made_leaves m before v port size x w None = (w, tt)
    made_leaves m before v port size x w (Some on) =
        all-filter_map (OfLeaves P) (OfLeaves P) (hop_rule size on.rewrite (at_node v port x))
        (node f m on.place.v on.place.port)
        (λ b y e p.
        let s = some_pulled (hopped size on.rewrite (at_node v port x) b) x.m (without_port b.m) on.rewrite y e in
        subst (OfLeaves P) s.2 (all-append P x.ancestry b.ancestry w p)) (before on.place.v on.place.port)

    node_leaves : (m v port : ℕ) → AllByRecursion (OfLeaves P) (node f m v port)
    node_leaves zero v port = (tt, tt)
    node_leaves (suc m) v port =
        all-flat_map (OfLeaves P) (OfLeaves P)
        (λ (a : Rule). hops_on (leads a.tail (f.links v) port) (node f m) (peers_size (hop_size f m) (f.links v))
        (at_node v port a))
        (filter_map (λ a. rule_met a (at_port port)) (f.rules v))
        (λ x w. made_leaves m (node_leaves m) v port (peers_size (hop_size f m) (f.links v)) x w
        (leads x.tail (f.links v) port))
        (all-filter_map (OfLeaves P) (OfLeaves P) (λ a. rule_met a (at_port port)) (f.rules v)
        (λ x y u w. subst (OfLeaves P) (some_met (narrowed x) x.m (at_port port) y u).1 w) (rules v))

  pub nodes_leaves : (net : Network) → AllByRecursion (EachLeaf P) net.tables → (hops v port : ℕ)
      → AllByRecursion (OfLeaves P) (node (fabric_of net) hops v port)
  nodes_leaves net h hops v port =
      node_leaves (fabric_of net) (λ u. switch_leaves net.tables h (slice_get net.switches u)) hops v port
