-- The leaves of the best rule of an expression over tables, and of that of a node.
use Rattle.std.proofs.Common.{◌≡◌, ℕ, zero, suc, ◌*◌, ◌<◌, ◌≤◌, true, false, ◌&&◌, List, [], ◌∷◌, ◌++◌, Option, Some}
use Rattle.std.proofs.Common.{None, refl, ap, ap₂, ◌∙◌, arith, sym, append-nil}
use Rattle.std.specs.Prelude.{filter_map, flat_map, slice_get}
use Rattle.std.specs.List.{AllByRecursion}
use Rattle.cv_io.specs.declared.leaf.Leaf.{Leaf}
use Rattle.of10_match.specs.Fields.{HeaderOf}
use Rattle.of10_match.specs.Matching.{at_port, both, holds}
use Rattle.of10_actions.specs.Fields.{RewriteOf}
use Rattle.of10_actions.specs.Rewriting.{apply}
use Rattle.of10_actions.specs.declared.effects.Tail.{Tail}
use Rattle.alg_priority.specs.Levels.{concat_level}
use Rattle.policy_expr.specs.Policy.{Policy, member, parallel, sequential, override}
use Rattle.policy_expr.specs.Sizes.{size_of}
use Rattle.policy_meaning.specs.Best.{Below, EachAt, IsBest, IsSound, first}
use Rattle.policy_meaning.specs.CentralFact.{EachMember}
use Rattle.policy_meaning.specs.EveryNode.{HasSoundTable, IsSoundNetwork}
use Rattle.policy_meaning.specs.Hops.{Fabric, at_node, hop_lone, hop_rule, hop_size, hops_on, last_rule, leads, node}
use Rattle.policy_meaning.specs.Hops.{peer_of, peers_size}
use Rattle.policy_meaning.specs.Leaf.{has_port, leaf_meaning}
use Rattle.policy_meaning.specs.LeafRules.{leaf_rules}
use Rattle.policy_meaning.specs.Networks.{enters, fabric_of, ground_of, ports_of, switch_has, switch_rules, switch_size}
use Rattle.policy_meaning.specs.Networks.{switch_spread, table_meaning, table_rules, table_size}
use Rattle.policy_meaning.specs.Rules.{rules_of}
use Rattle.policy_meaning.specs.Switches.{SwitchOf}
use Rattle.policy_meaning.specs.Walk.{arriving, takes}
use Rattle.policy_meaning.specs.declared.leaf.LeafTable.{LeafTable}
use Rattle.policy_meaning.specs.declared.meaning.Meaning.{Meaning}
use Rattle.policy_meaning.specs.declared.network.Link.{Link}
use Rattle.policy_meaning.specs.declared.network.Network.{Network}
use Rattle.policy_meaning.specs.declared.network.Onward.{Onward}
use Rattle.policy_meaning.specs.declared.network.Place.{Place}
use Rattle.policy_meaning.specs.declared.rule.Rule.{Rule}
use Rattle.policy_meaning.proofs.Booleans.{split_and, true_not_false}
use Rattle.policy_meaning.proofs.BestLemmas.{at-below, at-filter_map, best-filter_map, best-flat_map, best_each}
use Rattle.policy_meaning.proofs.BestLemmas.{best_holds, best_most}
use Rattle.policy_meaning.proofs.Central.{all-normal, each-member}
use Rattle.policy_meaning.proofs.Chains.{HasNormal, high}
use Rattle.policy_meaning.proofs.Everywhere.{sound-fabric, switch-sound, table-sound}
use Rattle.policy_meaning.proofs.LeafLemmas.{leaf_fact}
use Rattle.policy_meaning.proofs.Lists.{all-map}
use Rattle.policy_meaning.proofs.Cells.{narrowed}
use Rattle.policy_meaning.proofs.Nodes.{AtPort, at_port-holds, best-met, link-there, link_of, linked-holds, met_at}
use Rattle.policy_meaning.proofs.Nodes.{node-at}
use Rattle.policy_meaning.proofs.Peers.{leading, peer-size, positive}
use Rattle.explain_path.specs.Traces.{asked, asked_member, does, trace, traced_on}
use Rattle.explain_path.specs.Used.{UsedOfExpressions, UsedOfNodes, used_leaves, used_of}
use Rattle.explain_path.proofs.Unique.{Uses, unique, uses}
use Rattle.explain_path.proofs.UsedByLeaf.{leaf-best}
use Rattle.explain_path.proofs.UsedByOperands.{chain-uses, shift-uses, sum-uses}

-- of an expression over sound tables
module _ (tables : List LeafTable) (ports : List ℕ) where
  abbrev sizes : ℕ → ℕ
  sizes i = table_size (slice_get tables i)

  abbrev rules : ℕ → List Rule
  rules i = table_rules ports (slice_get tables i)

  member-uses : (i : ℕ) (o : Option LeafTable) → HasSoundTable o → (h : HeaderOf) → has_port ports h.in_port ≡ true
      → Uses h (table_rules ports o) (table_size o) (table_meaning o h) (used_leaves (asked_member i o h ∷ []))
  member-uses i None s h at = absurd s
  member-uses i (Some t) s h at =
      let b = leaf-best ports t s h at in
      uses h (leaf_rules ports t) t.size (leaf_meaning t h) (used_leaves (asked_member i (Some t) h ∷ [])) b.rule
      (leaf_fact ports t s h at) b.best b.is

  normal : (e : Policy) → EachMember (λ i. HasSoundTable (slice_get tables i)) e
      → AllByRecursion HasNormal (rules_of sizes rules e)
  normal e each =
      all-normal sizes rules e
      (each-member (λ i. HasSoundTable (slice_get tables i)) (λ i. AllByRecursion HasNormal (rules i))
      (λ i t. all-map IsSound HasNormal (rules i) (λ r q. q.is_normal) (table-sound ports (slice_get tables i) t)) e
      each)

  pub expression-uses : (e : Policy) → EachMember (λ i. HasSoundTable (slice_get tables i)) e → (h : HeaderOf)
      → has_port ports h.in_port ≡ true →
      Uses h (rules_of sizes rules e) (size_of sizes e) (does tables e h) (used_leaves (asked tables e h))
  expression-uses (member i) p h at = member-uses i (slice_get tables i) p h at
  expression-uses (parallel a b) p h at =
      sum-uses h (rules_of sizes rules a) (rules_of sizes rules b) (size_of sizes a) (size_of sizes b) (does tables a h)
      (does tables b h) (asked tables a h) (asked tables b h) (expression-uses a p.0 h at)
      (expression-uses b p.1 h at)
  expression-uses (sequential a b) p h at =
      chain-uses h (rules_of sizes rules a) (rules_of sizes rules b) (size_of sizes a) (size_of sizes b)
      (does tables a h) (λ r. does tables b (apply r h)) (normal b p.1) (asked tables a h)
      (λ r. asked tables b (apply r h)) (expression-uses a p.0 h at) (λ r. expression-uses b p.1 (apply r h) at)
  expression-uses (override a b) p h at =
      shift-uses h (rules_of sizes rules a) (rules_of sizes rules b) (size_of sizes a) (size_of sizes b)
      (does tables a h) (does tables b h) (asked tables a h) (asked tables b h) (expression-uses a p.0 h at)
      (expression-uses b p.1 h at)

pub used_of_expressions : UsedOfExpressions
used_of_expressions tables ports e each h at r best =
    let u = expression-uses tables ports e each h at in
    ap (λ (x : Rule). x.ancestry) (unique h best u.says.best) ∙ u.is

-- what the rules of a node of so many levels say: the best one's leaves
pub record HopUses (h : HeaderOf) (rules : List Rule) (size : ℕ) (leaves : List Leaf) : Type 0 where
  pub rule : Rule
  pub best : IsBest h rules rule
  pub below : rule.level < size
  pub is : rule.ancestry ≡ leaves

module _ (net : Network) (good : IsSoundNetwork net) where
  abbrev f : Fabric
  f = fabric_of net

  nodes : (n u port : ℕ) → AllByRecursion (AtPort port) (node f n u port)
  nodes n u port = node-at f (ground_of net).means (ground_of net).spread
      (λ v p. switch_has (slice_get net.switches v) p) (sound-fabric net good) n u port

  module _ (n v : ℕ) (h : HeaderOf) (before : (u : ℕ) (k : HeaderOf) → enters net u k ≡ true
      → HopUses k (node f n u k.in_port) (hop_size f n u) (used_of (trace net n u k)))
      (xs : List Rule) (links : List Link) (size : ℕ) (m : Meaning) (leaves : List Leaf) (u : Uses h xs size m leaves)
      (sound : AllByRecursion IsSound xs)
      (peers : (p : ℕ) (q : Place) → peer_of links p ≡ Some q
      → (switch_has (slice_get net.switches q.v) q.port ≡ true)
      × (switch_spread (slice_get net.switches q.v) ≡ false)) where
    abbrev over : ℕ
    over = peers_size (hop_size f n) links

    at-peer : (t : Tail) (on : Onward) → leads t links h.in_port ≡ Some on
        → HopUses (arriving on.rewrite on.place.port h) (node f n on.place.v on.place.port) (hop_size f n on.place.v)
        (used_of (trace net n on.place.v (arriving on.rewrite on.place.port h)))
    at-peer t on e =
        let l = leading t links h.in_port on e in
        let g = peers l.by on.place l.peer in
        before on.place.v (arriving on.rewrite on.place.port h) (rw (g.0, g.1) refl)

    peer-below : (t : Tail) (on : Onward) → leads t links h.in_port ≡ Some on → hop_size f n on.place.v ≤ over
    peer-below t on e = let l = leading t links h.in_port on e in peer-size (hop_size f n) links l.by on.place l.peer

    bounded : (t : Tail) (on : Onward) → leads t links h.in_port ≡ Some on
        → EachAt (arriving on.rewrite on.place.port h) (Below over) (node f n on.place.v on.place.port)
    bounded t on e =
        let s = at-peer t on e in
        let k = arriving on.rewrite on.place.port h in
        at-below k (hop_size f n on.place.v) over (node f n on.place.v on.place.port) (peer-below t on e)
        (best_most k s.best (hop_size f n on.place.v) s.below)

    -- what a rule makes
    abbrev makes : Rule → List Rule
    makes a = hops_on (leads a.tail links h.in_port) (node f n) over (at_node v h.in_port a)

    over-positive : 0 < over
    over-positive = positive _

    lower-by : (k : ℕ) (x : Rule) → (holds x.m h ≡ true → x.level < k) → (o : Option Onward)
        → leads x.tail links h.in_port ≡ o → EachAt h (Below (k * over)) (hops_on o (node f n) over x)
    lower-by k x lt None e = (λ t. high x.level k over 0 (lt t) over-positive, tt)
    lower-by k x lt (Some on) e =
        at-filter_map h (arriving on.rewrite on.place.port h) (hop_rule over on.rewrite x) (AtPort on.place.port)
        (Below over) (Below (k * over)) (node f n on.place.v on.place.port)
        (λ b y gb w t low. let c = linked-holds h over on.rewrite on.place.port x b y gb w t in let at = c.level in
        let up = high x.level k over b.level (lt c.left) (low c.right) in omega arith)
        (nodes n on.place.v on.place.port) (bounded x.tail on e)

    lower : (k : ℕ) (x : Rule) → (holds x.m h ≡ true → x.level < k) → EachAt h (Below (k * over)) (makes x)
    lower k x lt = lower-by k (at_node v h.in_port x) lt (leads x.tail links h.in_port) refl

    abbrev base : Rule
    base = narrowed u.says.rule (both u.says.rule.m (at_port h.in_port))

    base-best : IsBest h (filter_map (met_at h.in_port) xs) base
    base-best = best-met h (at_port h.in_port) sound (at_port-holds h) u.says.best

    abbrev stood : Rule
    stood = at_node v h.in_port base

    linked-lower : (r : RewriteOf) (to : ℕ) (b x y : Rule) → AtPort to x → hop_rule over r stood x ≡ Some y
        → holds y.m h ≡ true → (holds x.m (arriving r to h) ≡ true → x.level < b.level)
        → y.level < concat_level base.level b.level over
    linked-lower r to b x y gx z w low =
        let c = linked-holds h over r to stood x y gx z w in
        let l : x.level < b.level = low c.right in
        let at = c.level in
        omega arith

    same-tail : m.tail ≡ base.tail
    same-tail = ap (λ (z : Meaning). z.tail) (sym u.says.means)

    abbrev Said : Type 0
    Said = HopUses h (flat_map makes (filter_map (met_at h.in_port) xs)) (size * over)
        (leaves ++ used_of (traced_on (leads m.tail links h.in_port) (trace net n) h))

    on-by : (o : Option Onward) → leads base.tail links h.in_port ≡ o → leads m.tail links h.in_port ≡ o
    on-by o e = ap (λ t. leads t links h.in_port) same-tail ∙ e

    step : (o : Option Onward) → leads base.tail links h.in_port ≡ o → Said
    step None e = record {
      rule = hop_lone over stood;
      best = best-flat_map h makes (hop_lone over stood) (rw e (first (best_holds h base-best) tt))
          (λ x lt. at-below h (base.level * over) (concat_level base.level 0 over) (makes x) (omega arith)
          (lower base.level x lt)) base-best;
      below = high base.level size over 0 u.says.below over-positive;
      is = u.is
          ∙ (sym (append-nil leaves) ∙ ap (λ o. leaves ++ used_of (traced_on o (trace net n) h)) (sym (on-by None e)));
    }
    step (Some on) e =
        let k = arriving on.rewrite on.place.port h in
        let s = at-peer base.tail on e in
        let gs = best_each k (AtPort on.place.port) s.best (nodes n on.place.v on.place.port) in
        let there = link-there h over on.rewrite on.place.port stood s.rule gs (best_holds h base-best)
        (best_holds k s.best) in
        let bound : s.rule.level < over = let low = s.below in let le = peer-below base.tail on e in omega arith in
        record {
          rule = link_of over on.rewrite stood s.rule;
          best = best-flat_map h makes (link_of over on.rewrite stood s.rule)
              (rw e (best-filter_map h k (hop_rule over on.rewrite stood) (AtPort on.place.port)
              (link_of over on.rewrite stood s.rule) there.0 there.1
              (λ x y gx z w low. linked-lower on.rewrite on.place.port s.rule x y gx z w low)
              (nodes n on.place.v on.place.port) s.best))
              (λ x lt. at-below h (base.level * over) (concat_level base.level s.rule.level over) (makes x)
              (omega arith) (lower base.level x lt)) base-best;
          below = high base.level size over s.rule.level u.says.below bound;
          is = ap₂ (λ a b. a ++ b) u.is s.is
              ∙ ap (λ o. leaves ++ used_of (traced_on o (trace net n) h)) (sym (on-by (Some on) e));
        }

    pub node-uses : Said
    node-uses = step (leads base.tail links h.in_port) refl

  -- a virtual switch that is there
  at-switch : (n v : ℕ) (h : HeaderOf)
      → ((u : ℕ) (k : HeaderOf) → enters net u k ≡ true
      → HopUses k (node f n u k.in_port) (hop_size f n u) (used_of (trace net n u k))) →
      (o : Option SwitchOf) → slice_get net.switches v ≡ o
      → (switch_has o h.in_port && takes (switch_spread o) h) ≡ true
      → HopUses h (node f (suc n) v h.in_port) (hop_size f (suc n) v) (used_of (trace net (suc n) v h))
  at-switch n v h before None get e = absurd (true_not_false (sym e))
  at-switch n v h before (Some s) get e =
      let a = split_and (switch_has (Some s) h.in_port) (takes s.spread h) e in
      let sw = good.switches v s get in
      let r = node-uses n v h before (switch_rules net.tables (Some s)) s.links (switch_size net.tables (Some s))
      (does net.tables s.expr h) (used_leaves (asked net.tables s.expr h))
      (expression-uses net.tables (ports_of s) s.expr sw.members h a.0) (switch-sound net.tables s sw)
      (λ p q t. good.peers v p q (rw get t)) in
      rw (get, a.1) r

  pub hop-uses : (n v : ℕ) (h : HeaderOf) → enters net v h ≡ true
      → HopUses h (node f n v h.in_port) (hop_size f n v) (used_of (trace net n v h))
  hop-uses zero v h e = record { rule = last_rule; best = first refl tt; below = omega arith; is = refl }
  hop-uses (suc n) v h e = at-switch n v h (λ u k t. hop-uses n u k t) (slice_get net.switches v) refl e

pub used_of_nodes : UsedOfNodes
used_of_nodes net good n v h e r best =
    let u = hop-uses net good n v h e in
    ap (λ (x : Rule). x.ancestry) (unique h best u.best) ∙ u.is
