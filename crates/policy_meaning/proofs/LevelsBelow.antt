-- Levels of rules are below the sizes of what the rules are of.
use Rattle.std.proofs.Common.{◌≡◌, ℕ, zero, suc, ◌+◌, ◌*◌, ◌<◌, ◌≤◌, ◌^◌, Bool, true, false, List, [], ◌∷◌, Option}
use Rattle.std.proofs.Common.{Some, None, refl, subst, arith}
use Rattle.of10_match.specs.Matching.{at_port}
use Rattle.std.specs.Prelude.{filter_map, if◌then◌else◌, map, slice_get, All}
use Rattle.std.specs.List.{AllByRecursion}
use Rattle.std.proofs.lemmas.List.Elements.{All-from_recursion, recursion_from_All}
use Rattle.std.proofs.Math.Nat.{mul-le-mul_left, mul-le-mul_right}
use Rattle.of10_match.specs.Fields.{MatchOf}
use Rattle.alg_priority.specs.Sizes.{sum_size}
use Rattle.policy_expr.specs.Policy.{Policy, member, parallel, sequential, override}
use Rattle.policy_meaning.specs.Best.{Below}
use Rattle.policy_meaning.specs.Fitting.{IsFittingTable, levels_of, RulesAreBelow, NodesAreBelow, SoundTablesFit}
use Rattle.policy_meaning.specs.Hops.{at_node, hop_rule, hop_size, hopped, hops_on, leads, node, peers_size}
use Rattle.policy_meaning.specs.Hops.{without_port}
use Rattle.policy_meaning.specs.LeafFact.{IsSoundEntry}
use Rattle.policy_meaning.specs.LeafRules.{cells, entry_rule, has_outside, in_cells, leaf_rules, miss_rule}
use Rattle.policy_meaning.specs.LeafRules.{outside_rule, rule_met}
use Rattle.policy_meaning.specs.Networks.{fabric_of, ports_of, switch_rules, switch_size, table_rules, table_size}
use Rattle.policy_meaning.specs.Rules.{rules_of}
use Rattle.policy_meaning.specs.declared.leaf.LeafEntry.{LeafEntry}
use Rattle.policy_meaning.specs.declared.leaf.LeafTable.{LeafTable}
use Rattle.policy_meaning.specs.declared.network.Network.{Network}
use Rattle.policy_meaning.specs.declared.network.Onward.{Onward}
use Rattle.policy_meaning.specs.declared.network.VirtualSwitch.{VirtualSwitch}
use Rattle.policy_meaning.specs.declared.rule.Rule.{Rule}
use Rattle.policy_meaning.proofs.Cells.{narrowed}
use Rattle.policy_meaning.proofs.Chains.{high}
use Rattle.policy_meaning.proofs.Lists.{all-append, all-each, all-filter_map, all-flat_map, all-map, all-mapped}
use Rattle.policy_meaning.proofs.Meeting.{some_met, some_pulled}
use Rattle.policy_meaning.proofs.Pairs.{each-chain, each-shift, each-sum}
use Rattle.policy_meaning.proofs.Peers.{leading, peer-size, positive}
use Rattle.policy_meaning.proofs.Sums.{below-size}

-- a narrowed rule keeps its level
pub met-below : (n : ℕ) (a y : Rule) (m : MatchOf) → rule_met a m ≡ Some y → a.level < n → y.level < n
met-below n a y m e low = let s = some_met (narrowed a) a.m m y e in subst (λ (z : Rule). Below n z) s.1 low

in-cells-below : (n : ℕ) (boxes : List MatchOf) (a : Rule) → a.level < n → AllByRecursion (Below n) (in_cells boxes a)
in-cells-below n boxes a low =
    all-filter_map (λ (m : MatchOf). Unit {0}) (Below n) (rule_met a) boxes (λ m y e _. met-below n a y m e low)
    (all-each (λ (m : MatchOf). Unit {0}) boxes (λ m. tt))

module _ (ports : List ℕ) (t : LeafTable) (fits : IsFittingTable t) where
  outer-below : (b : Bool) → AllByRecursion (Below t.size) (if b then outside_rule t ∷ [] else [])
  outer-below true = (let r = fits.room in omega arith, tt)
  outer-below false = tt

  leaf-below : AllByRecursion (Below t.size) (leaf_rules ports t)
  leaf-below =
      all-append (Below t.size) _ _ (outer-below (has_outside ports t))
      (all-flat_map (Below t.size) (Below t.size) (in_cells (cells ports t))
      (miss_rule t ∷ map (entry_rule t) t.entries) (λ a low. in-cells-below t.size (cells ports t) a low) (
        fits.room,
        all-mapped (λ (e : LeafEntry). e.level < t.size) (Below t.size) (entry_rule t) t.entries
            (λ e low. low) (recursion_from_All (λ (e : LeafEntry). e.level < t.size) t.entries fits.levels),
      ))

-- how many operators a policy has
abbrev pub operators : Policy → ℕ
operators (member i) = 0
operators (parallel a b) = operators a + operators b + 1
operators (sequential a b) = operators a + operators b + 1
operators (override a b) = operators a + operators b + 1

-- a member's table, if there is one, fits
abbrev pub FitsAt : Option LeafTable → Type 0
FitsAt None = Unit {0}
FitsAt (Some t) = IsFittingTable t

among : (tables : List LeafTable) (i : ℕ) → AllByRecursion IsFittingTable tables → FitsAt (slice_get tables i)
among [] i p = tt
among (t ∷ ts) zero p = p.0
among (t ∷ ts) (suc i) p = among ts i p.1

table-below : (ports : List ℕ) (o : Option LeafTable) → FitsAt o
    → AllByRecursion (Below (table_size o)) (table_rules ports o)
table-below ports None fits = tt
table-below ports (Some t) fits = leaf-below ports t fits

table-positive : (o : Option LeafTable) → FitsAt o → 0 < table_size o
table-positive None fits = omega arith
table-positive (Some t) fits = let r = fits.room in omega arith

product-positive : (n k : ℕ) → 0 < n → 0 < k → 0 < n * k
product-positive n k p q = let h = high 0 n k 0 p q in omega arith

module _ (tables : List LeafTable) (all : All IsFittingTable tables) where
  pub fits-at : (i : ℕ) → FitsAt (slice_get tables i)
  fits-at i = among tables i (recursion_from_All IsFittingTable tables all)

  pub levels-positive : (e : Policy) → 0 < levels_of tables e
  levels-positive (member i) = table-positive (slice_get tables i) (fits-at i)
  levels-positive (parallel a b) = let p = levels-positive a in let q = levels-positive b in omega arith
  levels-positive (sequential a b) = product-positive (levels_of tables a) (levels_of tables b) (levels-positive a)
      (levels-positive b)
  levels-positive (override a b) = let p = levels-positive a in omega arith

  -- where the size of the whole fits, the sizes of its parts do
  pub parallel-parts : (a b : Policy) → levels_of tables (parallel a b) < 2 ^ 64
      → (levels_of tables a < 2 ^ 64) × (levels_of tables b < 2 ^ 64)
  parallel-parts a b fit = let p = levels-positive a in let q = levels-positive b in (omega arith, omega arith)

  pub sequential-parts : (a b : Policy) → levels_of tables (sequential a b) < 2 ^ 64
      → (levels_of tables a < 2 ^ 64) × (levels_of tables b < 2 ^ 64)
  sequential-parts a b fit =
      let p : 1 ≤ levels_of tables a = levels-positive a in
      let q : 1 ≤ levels_of tables b = levels-positive b in
      let left = mul-le-mul_left (levels_of tables a) q in
      let right = mul-le-mul_right (levels_of tables b) p in
      (omega arith, omega arith)

  module _ (ports : List ℕ) where
    abbrev made : Policy → List Rule
    made e = rules_of (λ i. table_size (slice_get tables i)) (λ i. table_rules ports (slice_get tables i)) e

    pub rules-below : (e : Policy) → AllByRecursion (Below (levels_of tables e)) (made e)
    rules-below (member i) = table-below ports (slice_get tables i) (fits-at i)
    rules-below (parallel a b) =
        let n = levels_of tables a in let k = levels_of tables b in
        each-sum (Below n) (Below k) (Below (sum_size n k)) (λ x y lx ly o. below-size x.level y.level n k lx ly)
        (made a) (made b) (rules-below a) (rules-below b)
    rules-below (sequential a b) =
        let n = levels_of tables a in let k = levels_of tables b in
        each-chain (Below n) (Below k) (Below (n * k)) k (λ x lx. high x.level n k 0 lx (levels-positive b))
        (λ x y r t lx ly o. high x.level n k y.level lx ly) (made a) (made b) (rules-below a) (rules-below b)
    rules-below (override a b) =
        let n = levels_of tables a in let k = levels_of tables b in
        each-shift (Below n) (Below k) (Below (n + k)) k (λ x lx. omega arith) (made a) (made b) (rules-below a)
        (all-map (Below k) (Below (n + k)) (made b) (λ x lx. omega arith) (rules-below b))

pub rules_are_below : RulesAreBelow
rules_are_below tables ports e all = All-from_recursion (Below (levels_of tables e)) _ (rules-below tables all ports e)

module _ (net : Network) (all : All IsFittingTable net.tables) where
  switch-below : (o : Option VirtualSwitch)
      → AllByRecursion (Below (switch_size net.tables o)) (switch_rules net.tables o)
  switch-below None = tt
  switch-below (Some s) = rules-below net.tables all (ports_of s) s.expr

  module _ (n v port : ℕ) (before : (u p : ℕ)
      → AllByRecursion (Below (hop_size (fabric_of net) n u)) (node (fabric_of net) n u p)) where
    abbrev own : ℕ
    own = (fabric_of net).sizes v

    abbrev over : ℕ
    over = peers_size (hop_size (fabric_of net) n) ((fabric_of net).links v)

    made-below : (a : Rule) → a.level < own → (o : Option Onward) → leads a.tail ((fabric_of net).links v) port ≡ o
        → AllByRecursion (Below (own * over)) (hops_on o (node (fabric_of net) n) over (at_node v port a))
    made-below a low None e = (high a.level own over 0 low (positive _), tt)
    made-below a low (Some on) e =
        let l = leading a.tail ((fabric_of net).links v) port on e in
        let le = peer-size (hop_size (fabric_of net) n) ((fabric_of net).links v) l.by on.place l.peer in
        let there = node (fabric_of net) n on.place.v on.place.port in
        all-filter_map (Below over) (Below (own * over)) (hop_rule over on.rewrite (at_node v port a)) there
        (λ b y u lb. let s = some_pulled (hopped over on.rewrite (at_node v port a) b) a.m (without_port b.m) on.rewrite
        y u in subst (λ (z : Rule). Below (own * over) z) s.2 (high a.level own over b.level low lb))
        (all-map (Below (hop_size (fabric_of net) n on.place.v)) (Below over) there (λ r lr. omega arith)
        (before on.place.v on.place.port))

  pub node-below : (n v port : ℕ)
      → AllByRecursion (Below (hop_size (fabric_of net) n v)) (node (fabric_of net) n v port)
  node-below zero v port = (omega arith, tt)
  node-below (suc n) v port =
      let own = (fabric_of net).sizes v in
      all-flat_map (Below own) (Below (hop_size (fabric_of net) (suc n) v)) _
      (filter_map (λ a. rule_met a (at_port port)) ((fabric_of net).rules v))
      (λ a low. made-below n v port (λ u p. node-below n u p) a low (leads a.tail ((fabric_of net).links v) port) refl)
      (all-filter_map (Below own) (Below own) (λ a. rule_met a (at_port port)) ((fabric_of net).rules v)
      (λ x y e low. met-below own x y (at_port port) e low) (switch-below (slice_get net.switches v)))

pub nodes_are_below : NodesAreBelow
nodes_are_below net all n v port = All-from_recursion (Below (hop_size (fabric_of net) n v)) _
    (node-below net all n v port)

pub sound_tables_fit : SoundTablesFit
sound_tables_fit t sound serials = record {
  room = sound.room;
  levels = All-from_recursion (λ (e : LeafEntry). e.level < t.size) t.entries
      (all-map (IsSoundEntry t.size) (λ (e : LeafEntry). e.level < t.size) t.entries (λ e s. s.below) sound.entries);
  serials = serials;
}
