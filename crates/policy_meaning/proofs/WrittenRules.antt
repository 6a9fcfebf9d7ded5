-- Rules are written by so many actions for each of their leaves.
use Rattle.std.proofs.Common.{◌≡◌, ℕ, zero, suc, ◌+◌, ◌*◌, ◌<◌, ◌≤◌, Bool, true, false, List, [], ◌∷◌, ◌++◌, Option}
use Rattle.std.proofs.Common.{Some, None, refl, subst, arith, length, length-append}
use Rattle.std.specs.Prelude.{filter_map, flat_map, if◌then◌else◌, map, slice_get}
use Rattle.std.specs.List.{AllByRecursion}
use Rattle.cv_io.specs.declared.leaf.Leaf.{Leaf}
use Rattle.of10_match.specs.Fields.{MatchOf}
use Rattle.of10_match.specs.Matching.{at_port, both, overlaps}
use Rattle.of10_actions.specs.Fields.{RewriteOf}
use Rattle.of10_actions.specs.Rewriting.{no_rewrite}
use Rattle.of10_actions.specs.declared.effects.Tail.{Tail}
use Rattle.of10_actions.specs.declared.effects.Tail.TheVariants.{Link, Nothing, Pass}
use Rattle.pull_back.specs.Pulling.{can_pull, pulled}
use Rattle.policy_expr.specs.Policy.{Policy, member, members_of, override, parallel, sequential}
use Rattle.policy_expr.specs.Sizes.{leaf_count, size_of}
use Rattle.policy_meaning.specs.Best.{IsSound}
use Rattle.policy_meaning.specs.CentralFact.{EachLeft, EachMember, IsPlainLeaf, IsPlainRule}
use Rattle.policy_meaning.specs.EveryNode.{HasPlainTable, HasSoundTable}
use Rattle.policy_meaning.specs.Hops.{Fabric, at_node, hop_lone, hop_rule, hop_size, hopped, hops_on, leads, node}
use Rattle.policy_meaning.specs.Hops.{peers_size, without_port}
use Rattle.policy_meaning.specs.LeafRules.{cells, entry_rule, has_outside, in_cells, leaf_rules, miss_rule}
use Rattle.policy_meaning.specs.LeafRules.{outside_rule, rule_met}
use Rattle.policy_meaning.specs.Networks.{fabric_of, ground_of, ports_of, switch_has, switch_rules, table_rules}
use Rattle.policy_meaning.specs.Networks.{table_size}
use Rattle.policy_meaning.specs.Rules.{chained, rules_of, summed}
use Rattle.policy_meaning.specs.Switches.{SwitchOf}
use Rattle.policy_meaning.specs.Written.{EntriesAreWrittenBy, HasLeaves, IsWrittenBy, NodesAreWritten, NodesHaveLeaves}
use Rattle.policy_meaning.specs.Written.{RulesAreWritten, RulesHaveLeaves, writes}
use Rattle.policy_meaning.specs.declared.leaf.LeafEntry.{LeafEntry}
use Rattle.policy_meaning.specs.declared.leaf.LeafTable.{LeafTable}
use Rattle.policy_meaning.specs.declared.network.Onward.{Onward}
use Rattle.policy_meaning.specs.declared.rule.Rule.{Rule}
use Rattle.policy_meaning.proofs.Booleans.{some_injective}
use Rattle.policy_meaning.proofs.Building.{rises, rises-ended}
use Rattle.policy_meaning.proofs.Cells.{narrowed}
use Rattle.policy_meaning.proofs.Central.{all-plain, each-member, rules-are-sound}
use Rattle.policy_meaning.proofs.Everywhere.{each-left, sound-fabric, table-plain, table-sound}
use Rattle.policy_meaning.proofs.Lists.{all-append, all-each, all-filter_map, all-flat_map, all-map, all-mapped}
use Rattle.policy_meaning.proofs.Lists.{all-zip}
use Rattle.policy_meaning.proofs.Meeting.{some_met, some_pulled}
use Rattle.policy_meaning.proofs.Nodes.{AtPort, link_of, node-at}
use Rattle.policy_meaning.proofs.Pairs.{each-chain, each-shift, each-sum}
use Rattle.policy_meaning.proofs.Peers.{leading}
use Rattle.policy_meaning.proofs.Writes.{writes-at, writes-ended, writes-link, writes-plain, writes-then}

-- so many for each of two lists of leaves
both-counts : (n x y z : ℕ) (a b : List Leaf) → x ≤ n * length a → y ≤ n * length b → z ≤ x + y
    → z ≤ n * length (a ++ b)
both-counts n x y z a b p q r = rw (length-append a b) (omega arith)

module _ (n : ℕ) (pos : 0 < n) where
  one-leaf : (x : ℕ) → x ≤ n → x ≤ n * 1
  one-leaf x le = omega arith

  -- the rules of a table
  module _ (ports : List ℕ) (t : LeafTable) (few : EntriesAreWrittenBy n t) where
    placed-written : (a : Rule) → IsWrittenBy n a → AllByRecursion (IsWrittenBy n) (in_cells (cells ports t) a)
    placed-written a w =
        all-filter_map (λ m. Unit {0}) (IsWrittenBy n) (rule_met a) (cells ports t)
        (λ m c e _. subst (IsWrittenBy n) (some_met (narrowed a) a.m m c e).1 w)
        (all-each (λ m. Unit {0}) (cells ports t) (λ m. tt))

    miss-written : (b : Bool) → t.misses ≡ b → IsWrittenBy n (miss_rule t)
    miss-written true e = rw e (omega arith)
    miss-written false e = rw e (omega arith)

    outer-written : (b : Bool) → AllByRecursion (IsWrittenBy n) (if b then outside_rule t ∷ [] else [])
    outer-written true = (omega arith, tt)
    outer-written false = tt

    table-written : AllByRecursion (IsWrittenBy n) (leaf_rules ports t)
    table-written =
        all-append (IsWrittenBy n) (if has_outside ports t then outside_rule t ∷ [] else [])
        (flat_map (in_cells (cells ports t)) (miss_rule t ∷ map (entry_rule t) t.entries))
        (outer-written (has_outside ports t))
        (all-flat_map (IsWrittenBy n) (IsWrittenBy n) (in_cells (cells ports t))
        (miss_rule t ∷ map (entry_rule t) t.entries) placed-written (
          miss-written t.misses refl,
          all-mapped (λ (e : LeafEntry). writes e.effects.outs e.effects.tail ≤ n)
              (IsWrittenBy n) (entry_rule t) t.entries (λ e w. one-leaf (writes e.effects.outs e.effects.tail) w) few,
        ))

  found-written : (tables : List LeafTable) → AllByRecursion (EntriesAreWrittenBy n) tables → (i : ℕ) (t : LeafTable)
      → slice_get tables i ≡ Some t → EntriesAreWrittenBy n t
  found-written [] a i t e = cc
  found-written (x ∷ xs) a zero t e = subst (EntriesAreWrittenBy n) (some_injective e) a.0
  found-written (x ∷ xs) a (suc i) t e = found-written xs a.1 i t e

  member-written : (ports : List ℕ) (o : Option LeafTable) → ((t : LeafTable) → o ≡ Some t → EntriesAreWrittenBy n t)
      → AllByRecursion (IsWrittenBy n) (table_rules ports o)
  member-written ports None f = tt
  member-written ports (Some t) f = table-written ports t (f t refl)

  -- the rules of pairs
  sum-written : (a x : Rule) (m : MatchOf) → IsPlainRule a → IsWrittenBy n a → IsWrittenBy n x
      → IsWrittenBy n (summed a x m)
  sum-written a x m p w v = both-counts n (writes a.outs a.tail) (writes x.outs x.tail)
      (writes (a.outs ++ x.outs) x.tail) a.ancestry x.ancestry w v (writes-plain a.outs x.outs a.tail x.tail p.sets)

  chain-written : (size : ℕ) (a x : Rule) (r : RewriteOf) (m : MatchOf) → a.tail ≡ Pass r → IsWrittenBy n a → IsSound x
      → IsWrittenBy n x → IsWrittenBy n (chained size r a x m)
  chain-written size a x r m t w s v =
      let w' : writes a.outs (Pass r) ≤ n * length a.ancestry =
      subst (λ (z : Tail). writes a.outs z ≤ n * length a.ancestry) t w in
      both-counts n (writes a.outs (Pass r)) (writes x.outs x.tail)
      (writes (chained size r a x m).outs (chained size r a x m).tail) a.ancestry x.ancestry w' v
      (writes-then no_rewrite a.outs r x.outs x.tail (rises x.outs x.tail s.builds))

  module _ (sizes : ℕ → ℕ) (rules : ℕ → List Rule) where
    abbrev of : Policy → List Rule
    of e = rules_of sizes rules e

    abbrev Few : Rule → Type 0
    Few = IsWrittenBy n

    rules-written : (e : Policy) → EachMember (λ i. AllByRecursion IsSound (rules i)) e → EachLeft (IsPlainLeaf rules) e
        → EachMember (λ i. AllByRecursion Few (rules i)) e → AllByRecursion Few (of e)
    rules-written (member i) s l w = w
    rules-written (parallel a b) s l w =
        each-sum (λ r. IsPlainRule r × Few r) Few Few (λ x y px wy o. sum-written x y (both x.m y.m) px.0 px.1 wy)
        (of a) (of b)
        (all-zip IsPlainRule Few (of a) (all-plain sizes rules a l.0) (rules-written a s.0 l.1 w.0))
        (rules-written b s.1 l.2 w.1)
    rules-written (sequential a b) s l w =
        each-chain Few (λ r. IsSound r × Few r) Few (size_of sizes b) (λ x p. p)
        (λ x y r t px qy o. chain-written (size_of sizes b) x y r (both x.m (pulled r y.m)) t px qy.0 qy.1) (of a)
        (of b)
        (rules-written a s.0 l.0 w.0)
        (all-zip IsSound Few (of b) (rules-are-sound sizes rules b s.1 l.1) (rules-written b s.1 l.1 w.1))
    rules-written (override a b) s l w =
        each-shift Few Few Few (size_of sizes b) (λ x p. p) (of a) (of b) (rules-written a s.0 l.0 w.0)
        (rules-written b s.1 l.1 w.1)

  expression-written : (tables : List LeafTable) → AllByRecursion (EntriesAreWrittenBy n) tables
      → (ports : List ℕ) (e : Policy) → EachMember (λ i. HasSoundTable (slice_get tables i)) e →
      EachLeft (λ i. HasPlainTable (slice_get tables i)) e
      → AllByRecursion (IsWrittenBy n)
      (rules_of (λ i. table_size (slice_get tables i)) (λ i. table_rules ports (slice_get tables i)) e)
  expression-written tables few ports e s l =
      rules-written (λ i. table_size (slice_get tables i)) (λ i. table_rules ports (slice_get tables i)) e
      (each-member (λ i. HasSoundTable (slice_get tables i))
      (λ i. AllByRecursion IsSound (table_rules ports (slice_get tables i)))
      (λ i t. table-sound ports (slice_get tables i) t) e s)
      (each-left (λ i. HasPlainTable (slice_get tables i)) (IsPlainLeaf (λ i. table_rules ports (slice_get tables i)))
      (λ i t. table-plain ports (slice_get tables i) t) e l)
      (each-member (λ i. HasSoundTable (slice_get tables i))
      (λ i. AllByRecursion (IsWrittenBy n) (table_rules ports (slice_get tables i)))
      (λ i _. member-written ports (slice_get tables i) (λ t f. found-written tables few i t f)) e s)

  -- the rules of nodes
  module _ (f : Fabric) (rules : (v : ℕ) → AllByRecursion (IsWrittenBy n) (f.rules v)) (nodes : (m v port : ℕ)
      → AllByRecursion (AtPort port) (node f m v port)) where
    met-written : (port : ℕ) (x y : Rule) → rule_met x (at_port port) ≡ Some y → IsWrittenBy n x → IsWrittenBy n y
    met-written port x y e w = subst (IsWrittenBy n) (some_met (narrowed x) x.m (at_port port) y e).1 w

    stood : (v port : ℕ) (x : Rule) (t : Tail) → x.tail ≡ t → IsWrittenBy n x
        → writes (at_node v port x).outs t ≤ n * length x.ancestry
    stood v port x t e w =
        let a : writes (at_node v port x).outs t ≤ writes x.outs t = writes-at v port no_rewrite x.outs t in
        let b : writes x.outs t ≤ n * length x.ancestry =
        subst (λ (z : Tail). writes x.outs z ≤ n * length x.ancestry) e w in
        omega arith

    lone-written : (v port size : ℕ) (x : Rule) → IsWrittenBy n x → IsWrittenBy n (hop_lone size (at_node v port x))
    lone-written v port size x w =
        let a : writes (at_node v port x).outs x.tail ≤ n * length x.ancestry = stood v port x x.tail refl w in
        let b : writes (at_node v port x).outs Nothing ≤ writes (at_node v port x).outs x.tail =
        writes-ended no_rewrite (at_node v port x).outs x.tail in
        omega arith

    linked-written : (v port size to : ℕ) (r : RewriteOf) (p : ℕ) (x b y : Rule) → x.tail ≡ Link r p → IsWrittenBy n x
        → AtPort to b × IsWrittenBy n b → hop_rule size r (at_node v port x) b ≡ Some y → IsWrittenBy n y
    linked-written v port size to r p x b y t w g e =
        let a = at_node v port x in
        let s : (can_pull r (without_port b.m) ≡ true) × (overlaps a.m (pulled r (without_port b.m)) ≡ true)
        × (link_of size r a b ≡ y) = some_pulled (hopped size r a b) a.m (without_port b.m) r y e in
        let own : writes a.outs (Pass r) ≤ n * length x.ancestry =
        subst (λ z. z ≤ n * length x.ancestry) (writes-link no_rewrite a.outs r p)
        (stood v port x (Link r p) t w) in
        let over : writes b.outs Nothing ≤ n * length b.ancestry =
        let c : writes b.outs Nothing ≤ writes b.outs b.tail = writes-ended no_rewrite b.outs b.tail in let d =
        g.1 in omega arith in
        subst (IsWrittenBy n) s.2
        (both-counts n (writes a.outs (Pass r)) (writes b.outs Nothing) (writes (link_of size r a b).outs Nothing)
        x.ancestry b.ancestry own over
        (writes-then no_rewrite a.outs r b.outs Nothing
        (rises-ended no_rewrite b.outs b.tail (rises b.outs b.tail g.0.sound.builds))))

    module _ (m : ℕ) (before : (u port : ℕ) → AllByRecursion (IsWrittenBy n) (node f m u port)) where
      made-written : (v port size : ℕ) (x : Rule) → IsWrittenBy n x → (o : Option Onward)
          → leads x.tail (f.links v) port ≡ o
          → AllByRecursion (IsWrittenBy n) (hops_on o (node f m) size (at_node v port x))
      made-written v port size x w None e = (lone-written v port size x w, tt)
      made-written v port size x w (Some on) e =
          let l = leading x.tail (f.links v) port on e in
          all-filter_map (λ b. AtPort on.place.port b × IsWrittenBy n b) (IsWrittenBy n)
          (hop_rule size on.rewrite (at_node v port x)) (node f m on.place.v on.place.port)
          (λ b y u g. linked-written v port size on.place.port on.rewrite l.by x b y l.tail w g u)
          (all-zip (AtPort on.place.port) (IsWrittenBy n) (node f m on.place.v on.place.port)
          (nodes m on.place.v on.place.port) (before on.place.v on.place.port))

    node-written : (m v port : ℕ) → AllByRecursion (IsWrittenBy n) (node f m v port)
    node-written zero v port = (omega arith, tt)
    node-written (suc m) v port =
        all-flat_map (IsWrittenBy n) (IsWrittenBy n)
        (λ (a : Rule). hops_on (leads a.tail (f.links v) port) (node f m) (peers_size (hop_size f m) (f.links v))
        (at_node v port a))
        (filter_map (λ a. rule_met a (at_port port)) (f.rules v))
        (λ x w. made-written m (node-written m) v port (peers_size (hop_size f m) (f.links v)) x w
        (leads x.tail (f.links v) port) refl)
        (all-filter_map (IsWrittenBy n) (IsWrittenBy n) (λ a. rule_met a (at_port port)) (f.rules v)
        (λ x y e w. met-written port x y e w) (rules v))

pub rules-are-written : RulesAreWritten
rules-are-written n pos tables few ports e s l = expression-written n pos tables few ports e s l

switch-written : (n : ℕ) → 0 < n → (tables : List LeafTable) → AllByRecursion (EntriesAreWrittenBy n) tables
    → (o : Option SwitchOf) →
    ((s : SwitchOf) → o ≡ Some s → EachMember (λ i. HasSoundTable (slice_get tables i)) s.expr
    × EachLeft (λ i. HasPlainTable (slice_get tables i)) s.expr)
    → AllByRecursion (IsWrittenBy n) (switch_rules tables o)
switch-written n pos tables few None good = tt
switch-written n pos tables few (Some s) good = let g = good s refl in
    expression-written n pos tables few (ports_of s) s.expr g.0 g.1

pub nodes-are-written : NodesAreWritten
nodes-are-written n pos net few good hops v port =
    node-written n pos (fabric_of net)
    (λ u. switch-written n pos net.tables few (slice_get net.switches u)
    (λ s e. let g = good.switches u s e in (g.members, g.lefts)))
    (λ m u p. node-at (fabric_of net) (ground_of net).means (ground_of net).spread
    (λ u p. switch_has (slice_get net.switches u) p) (sound-fabric net good) m u p) hops v port

-- how many leaves rules have

both-leaves : (x y : ℕ) (a b : List Leaf) → length a ≤ x → length b ≤ y → length (a ++ b) ≤ x + y
both-leaves x y a b p q = rw (length-append a b) (omega arith)

outer-leaves : (t : LeafTable) (b : Bool) → AllByRecursion (HasLeaves 1) (if b then outside_rule t ∷ [] else [])
outer-leaves t true = (omega arith, tt)
outer-leaves t false = tt

one-each : (ports : List ℕ) (o : Option LeafTable) → AllByRecursion (HasLeaves 1) (table_rules ports o)
one-each ports None = tt
one-each ports (Some t) =
    all-append (HasLeaves 1) (if has_outside ports t then outside_rule t ∷ [] else [])
    (flat_map (in_cells (cells ports t)) (miss_rule t ∷ map (entry_rule t) t.entries))
    (outer-leaves t (has_outside ports t))
    (all-flat_map (HasLeaves 1) (HasLeaves 1) (in_cells (cells ports t)) (miss_rule t ∷ map (entry_rule t) t.entries)
    (λ a w. all-filter_map (λ m. Unit {0}) (HasLeaves 1) (rule_met a) (cells ports t)
    (λ m c e _. subst (HasLeaves 1) (some_met (narrowed a) a.m m c e).1 w)
    (all-each (λ m. Unit {0}) (cells ports t) (λ m. tt))) (
      omega arith,
      all-mapped (λ (e : LeafEntry). Unit {0}) (HasLeaves 1) (entry_rule t) t.entries (λ e _. omega arith)
          (all-each (λ (e : LeafEntry). Unit {0}) t.entries (λ e. tt)),
    ))

module _ (sizes : ℕ → ℕ) (rules : ℕ → List Rule) (one : (i : ℕ) → AllByRecursion (HasLeaves 1) (rules i)) where
  rules-leaves : (e : Policy) → AllByRecursion (HasLeaves (leaf_count e)) (rules_of sizes rules e)
  rules-leaves (member i) = one i
  rules-leaves (parallel a b) =
      rw (length-append (members_of a) (members_of b))
      (each-sum (HasLeaves (leaf_count a)) (HasLeaves (leaf_count b)) (HasLeaves (leaf_count a + leaf_count b))
      (λ x y p q o. both-leaves (leaf_count a) (leaf_count b) x.ancestry y.ancestry p q)
      (rules_of sizes rules a) (rules_of sizes rules b) (rules-leaves a) (rules-leaves b))
  rules-leaves (sequential a b) =
      rw (length-append (members_of a) (members_of b))
      (each-chain (HasLeaves (leaf_count a)) (HasLeaves (leaf_count b)) (HasLeaves (leaf_count a + leaf_count b))
      (size_of sizes b) (λ x p. omega arith)
      (λ x y r t p q o. both-leaves (leaf_count a) (leaf_count b) x.ancestry y.ancestry p q)
      (rules_of sizes rules a) (rules_of sizes rules b) (rules-leaves a) (rules-leaves b))
  rules-leaves (override a b) =
      rw (length-append (members_of a) (members_of b))
      (each-shift (HasLeaves (leaf_count a)) (HasLeaves (leaf_count b)) (HasLeaves (leaf_count a + leaf_count b))
      (size_of sizes b) (λ x p. omega arith)
      (rules_of sizes rules a) (rules_of sizes rules b) (rules-leaves a)
      (all-map (HasLeaves (leaf_count b)) (HasLeaves (leaf_count a + leaf_count b)) (rules_of sizes rules b)
      (λ x p. omega arith) (rules-leaves b)))

pub rules-have-leaves : RulesHaveLeaves
rules-have-leaves tables ports e = rules-leaves (λ i. table_size (slice_get tables i))
    (λ i. table_rules ports (slice_get tables i)) (λ i. one-each ports (slice_get tables i)) e

module _ (most : ℕ) (f : Fabric) (rules : (v : ℕ) → AllByRecursion (HasLeaves most) (f.rules v)) where
  module _ (m : ℕ) (before : (u port : ℕ) → AllByRecursion (HasLeaves (m * most)) (node f m u port)) where
    made-leaves : (v port size : ℕ) (x : Rule) → HasLeaves most x → (o : Option Onward)
        → AllByRecursion (HasLeaves (most + m * most)) (hops_on o (node f m) size (at_node v port x))
    made-leaves v port size x w None = (omega arith, tt)
    made-leaves v port size x w (Some on) =
        all-filter_map (HasLeaves (m * most)) (HasLeaves (most + m * most))
        (hop_rule size on.rewrite (at_node v port x)) (node f m on.place.v on.place.port)
        (λ b y e p.
        let s : (can_pull on.rewrite (without_port b.m) ≡ true)
        × (overlaps x.m (pulled on.rewrite (without_port b.m)) ≡ true)
        × (link_of size on.rewrite (at_node v port x) b ≡ y) =
        some_pulled (hopped size on.rewrite (at_node v port x) b) x.m (without_port b.m) on.rewrite y e in
        subst (HasLeaves (most + m * most)) s.2 (both-leaves most (m * most) x.ancestry b.ancestry w p))
        (before on.place.v on.place.port)

  node-leaves : (m v port : ℕ) → AllByRecursion (HasLeaves (m * most)) (node f m v port)
  node-leaves zero v port = (omega arith, tt)
  node-leaves (suc m) v port =
      let e : suc m * most ≡ most + m * most = omega arith in
      rw e
      (all-flat_map (HasLeaves most) (HasLeaves (most + m * most))
      (λ (a : Rule). hops_on (leads a.tail (f.links v) port) (node f m) (peers_size (hop_size f m) (f.links v))
      (at_node v port a))
      (filter_map (λ a. rule_met a (at_port port)) (f.rules v))
      (λ x w. made-leaves m (node-leaves m) v port (peers_size (hop_size f m) (f.links v)) x w
      (leads x.tail (f.links v) port))
      (all-filter_map (HasLeaves most) (HasLeaves most) (λ a. rule_met a (at_port port)) (f.rules v)
      (λ x y u w. subst (HasLeaves most) (some_met (narrowed x) x.m (at_port port) y u).1 w) (rules v)))

switch-leaves : (tables : List LeafTable) (most : ℕ) (o : Option SwitchOf)
    → ((s : SwitchOf) → o ≡ Some s → leaf_count s.expr ≤ most) → AllByRecursion (HasLeaves most) (switch_rules tables o)
switch-leaves tables most None few = tt
switch-leaves tables most (Some s) few =
    let le = few s refl in
    all-map (HasLeaves (leaf_count s.expr)) (HasLeaves most) (switch_rules tables (Some s)) (λ r p. omega arith)
    (rules-have-leaves tables (ports_of s) s.expr)

pub nodes-have-leaves : NodesHaveLeaves
nodes-have-leaves net most few hops v port =
    node-leaves most (fabric_of net) (λ u. switch-leaves net.tables most (slice_get net.switches u) (few u)) hops v port
