-- What the code of nodes does, step by step.
use Rattle.std.proofs.Common.{◌≡◌, ℕ, suc, ◌+◌, ◌*◌, ◌<◌, ◌≤◌, ◌^◌, List, [], ◌∷◌, Option, Some, None, refl, subst, sym}
use Rattle.std.proofs.Common.{◌∙◌, arith, length, get_or}
use Rattle.of10_match.specs.Matching.{at_port}
use Rattle.std.specs.Prelude.{filter_map, flat_map, map, slice_get, All, IfSome, max}
use Rattle.std.specs.List.{AllByRecursion}
use Rattle.std.proofs.lemmas.List.Elements.{All-from_recursion}
use Rattle.std.proofs.Math.Nat.{mul-le-mul_left, mul-le-mul_right}
use Rattle.of10_actions.specs.declared.effects.Tail.{Tail}
use Rattle.alg_priority.specs.Levels.{capped, concat_level}
use Rattle.alg_priority.specs.Sizes.{concat_size, sum_size}
use Rattle.alg_priority.proofs.Saturation.{concat_size-capped, sum_size-capped}
use Rattle.policy_expr.specs.Policy.{Policy, parallel, sequential}
use Rattle.policy_meaning.specs.Best.{Below}
use Rattle.policy_meaning.specs.Fitting.{IsFittingTable, levels_of}
use Rattle.policy_meaning.specs.Hops.{at_node, hop_size, hops_on, leads, node, peers_size}
use Rattle.policy_meaning.specs.LeafRules.{rule_met}
use Rattle.policy_meaning.specs.Networks.{fabric_of, ports_of, switch_rules}
use Rattle.policy_meaning.specs.declared.leaf.LeafTable.{LeafTable}
use Rattle.policy_meaning.specs.declared.network.Link.{Link}
use Rattle.policy_meaning.specs.declared.network.Network.{Network}
use Rattle.policy_meaning.specs.declared.network.Onward.{Onward}
use Rattle.policy_meaning.specs.declared.network.VirtualSwitch.{VirtualSwitch}
use Rattle.policy_meaning.specs.declared.rule.Rule.{Rule}
use Rattle.policy_meaning.proofs.Chains.{high}
use Rattle.policy_meaning.proofs.LevelsBelow.{levels-positive, met-below, nodes_are_below, rules-below}
use Rattle.policy_meaning.proofs.Lists.{all-filter_map}
use Rattle.policy_meaning.proofs.Peers.{leading, peer-size, positive}

-- sizes that are computed of capped sizes
module _ (tables : List LeafTable) (all : All IsFittingTable tables) (a b : Policy) (x y r : ℕ)
    (ex : x ≡ capped (levels_of tables a)) (ey : y ≡ capped (levels_of tables b)) where
  pub parallel-size : r ≡ capped (sum_size x y) → r ≡ capped (levels_of tables (parallel a b))
  parallel-size er = er
      ∙ rw (ex, ey) (sum_size-capped (levels_of tables a) (levels_of tables b) (levels-positive tables all a)
      (levels-positive tables all b))

  pub sequential-size : r ≡ capped (concat_size x y) → r ≡ capped (levels_of tables (sequential a b))
  sequential-size er = er
      ∙ rw (ex, ey) (concat_size-capped (levels_of tables a) (levels_of tables b) (levels-positive tables all a)
      (levels-positive tables all b))

-- the greatest size so far
pub none-far : (w : ℕ → ℕ) (links : List Link) → max 1 (capped (peers_size w links)) ≡ capped (peers_size w links)
none-far w [] = refl
none-far w (l ∷ ls) = let p : 0 < peers_size w (l ∷ ls) = positive (map (λ (x : Link). w x.peer.v) (l ∷ ls)) in
    omega arith

module _ (net : Network) (all : All IsFittingTable net.tables) (hops n v : ℕ) (s : VirtualSwitch) (k : hops ≡ suc n)
    (get : slice_get net.switches v ≡ Some s) where
  abbrev own : ℕ
  own = levels_of net.tables s.expr

  abbrev over : ℕ
  over = peers_size (hop_size (fabric_of net) n) s.links

  size-is : hop_size (fabric_of net) hops v ≡ own * over
  size-is = rw (k, get) refl

  pub size-on : (x y r : ℕ) → x ≡ capped own → y ≡ capped over → r ≡ capped (concat_size x y)
      → r ≡ capped (hop_size (fabric_of net) hops v)
  size-on x y r ex ey er =
      rw size-is (er ∙ rw (ex, ey) (concat_size-capped own over (levels-positive net.tables all s.expr) (positive _)))

  module _ (fit : hop_size (fabric_of net) hops v < 2 ^ 64) where
    whole : own * over < 2 ^ 64
    whole = rw size-is at fit

    pub own-fits : own < 2 ^ 64
    own-fits = let p : 1 ≤ over = positive _ in let le = mul-le-mul_left own p in let w = whole in omega arith

    over-fits : over < 2 ^ 64
    over-fits = let p : 1 ≤ own = levels-positive net.tables all s.expr in let le = mul-le-mul_right over p in let w =
        whole in omega arith

    pub size-exact : (size : ℕ) → size ≡ capped over → size ≡ over
    size-exact size e = let o = over-fits in omega arith

    -- where the rule leads, there is a smaller size
    pub peer-fits : (size port : ℕ) (t : Tail) (o : Option Onward) → size ≡ capped over → o ≡ leads t s.links port
        → IfSome o (λ (on : Onward). hop_size (fabric_of net) n on.place.v ≤ size)
    peer-fits size port t None e led = tt
    peer-fits size port t (Some on) e led =
        let l = leading t s.links port on (sym led) in
        let le = peer-size (hop_size (fabric_of net) n) s.links l.by on.place l.peer in
        let same = size-exact size e in
        omega arith

    met-all : (port : ℕ)
        → AllByRecursion (Below own) (filter_map (λ a. rule_met a (at_port port)) (switch_rules net.tables (Some s)))
    met-all port =
        all-filter_map (Below own) (Below own) (λ a. rule_met a (at_port port)) (switch_rules net.tables (Some s))
        (λ x y e low. met-below own x y (at_port port) e low)
        (rules-below net.tables all (ports_of s) s.expr)

    -- a rule leaves room for all rules of the node where it leads
    pub room-fits : (size port : ℕ) (met : List Rule) (i : ℕ) (a : Rule) → size ≡ capped over
        → met ≡ filter_map (λ a. rule_met a (at_port port)) (switch_rules net.tables (Some s)) → i < length met
        → a ≡ get_or met i a → (a.level + 1) * size < 2 ^ 64
    room-fits size port met i a e em lt is =
        let each : All (Below own) met = rw em (All-from_recursion (Below own) _ (met-all port)) in
        let low : a.level < own = subst (λ (z : Rule). z.level < own) (sym is) (each i a lt) in
        let next : a.level + 1 ≤ own = omega arith in
        let same = size-exact size e in
        let le = mul-le-mul_right over next in
        let w = whole in
        rw same (omega arith)

    pub node-on : (size port : ℕ) (rules met xs : List Rule) → size ≡ capped over
        → xs ≡ switch_rules net.tables (Some s) → met ≡ filter_map (λ a. rule_met a (at_port port)) xs →
        rules
        ≡ flat_map (λ (a : Rule). hops_on (leads a.tail s.links port) (node (fabric_of net) n) size
        (at_node v port a)) met → rules ≡ node (fabric_of net) hops v port
    node-on size port rules met xs e ex em er = er ∙ rw (size-exact size e, em, ex, k, get) refl

-- the levels of a rule and of those of the node where it leads
pub pairs-fit : (net : Network) → All IsFittingTable net.tables → (n v port size level : ℕ) (there : List Rule)
    → there ≡ node (fabric_of net) n v port → hop_size (fabric_of net) n v ≤ size → (level + 1) * size < 2 ^ 64 →
    All (λ (b : Rule). concat_level level b.level size < 2 ^ 64) there
pairs-fit net all n v port size level there e le room i d lt =
    let each : All (Below (hop_size (fabric_of net) n v)) there = rw e (nodes_are_below net all n v port) in
    let low : (get_or there i d).level < hop_size (fabric_of net) n v = each i d lt in
    let less = high level (level + 1) size (get_or there i d).level (omega arith) (omega arith) in
    omega arith
