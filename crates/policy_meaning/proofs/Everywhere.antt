-- From tables, expressions and links to every node.
use Rattle.std.proofs.Common.{◌≡◌, ℕ, true, List, Option, Some, None, refl, sym}
use Rattle.std.specs.Prelude.{slice_get}
use Rattle.std.specs.List.{AllByRecursion}
use Rattle.of10_match.specs.Fields.{HeaderOf}
use Rattle.policy_expr.specs.Policy.{Policy, member, parallel, sequential, override}
use Rattle.policy_expr.specs.Sizes.{size_of}
use Rattle.policy_meaning.specs.Leaf.{has_port}
use Rattle.policy_meaning.specs.Meaning.{evaluate}
use Rattle.policy_meaning.specs.Rules.{rules_of}
use Rattle.policy_meaning.specs.Networks.{ports_of, table_meaning, table_rules, table_size, switch_meaning}
use Rattle.policy_meaning.specs.Networks.{switch_rules, switch_size, switch_has, switch_spread, fabric_of, ground_of}
use Rattle.policy_meaning.specs.Walk.{takes}
use Rattle.policy_meaning.specs.Best.{IsSound, Says}
use Rattle.policy_meaning.specs.CentralFact.{EachMember, EachLeft, AreSoundLeaves, IsPlainLeaf, IsPlainRule}
use Rattle.policy_meaning.specs.HopFact.{IsSoundFabric}
use Rattle.policy_meaning.specs.EveryNode.{HasSoundTable, HasPlainTable, IsSoundSwitch, IsSoundNetwork, EveryNode}
use Rattle.policy_meaning.specs.EveryNode.{EveryExpression, ExpressionsAreSound}
use Rattle.policy_meaning.specs.declared.leaf.LeafTable.{LeafTable}
use Rattle.policy_meaning.specs.declared.network.VirtualSwitch.{VirtualSwitch}
use Rattle.policy_meaning.specs.declared.network.Network.{Network}
use Rattle.policy_meaning.specs.declared.rule.Rule.{Rule}
use Rattle.policy_meaning.proofs.Booleans.{split_and, true_not_false}
use Rattle.policy_meaning.proofs.Central.{each-member, central, rules-are-sound}
use Rattle.policy_meaning.proofs.LeafLemmas.{leaf_fact, leaf_rules_are_sound}
use Rattle.policy_meaning.proofs.Plain.{rules-plain}
use Rattle.policy_meaning.proofs.Nodes.{hop_fact}

pub each-left : (P Q : ℕ → Type 0) → ((i : ℕ) → P i → Q i) → (e : Policy) → EachLeft P e → EachLeft Q e
each-left P Q f (member i) p = tt
each-left P Q f (parallel a b) p = (each-member P Q f a p.0, each-left P Q f a p.1, each-left P Q f b p.2)
each-left P Q f (sequential a b) p = (each-left P Q f a p.0, each-left P Q f b p.1)
each-left P Q f (override a b) p = (each-left P Q f a p.0, each-left P Q f b p.1)

-- a member by its table
table-says : (ports : List ℕ) (o : Option LeafTable) → HasSoundTable o → (h : HeaderOf)
    → has_port ports h.in_port ≡ true → Says h (table_rules ports o) (table_size o) (table_meaning o h)
table-says ports None s h at = absurd s
table-says ports (Some t) s h at = leaf_fact ports t s h at

pub table-sound : (ports : List ℕ) (o : Option LeafTable) → HasSoundTable o
    → AllByRecursion IsSound (table_rules ports o)
table-sound ports None s = tt
table-sound ports (Some t) s = leaf_rules_are_sound ports t s

pub table-plain : (ports : List ℕ) (o : Option LeafTable) → HasPlainTable o
    → AllByRecursion IsPlainRule (table_rules ports o)
table-plain ports None p = tt
table-plain ports (Some t) p = rules-plain ports t p

-- an expression by its members
module _ (tables : List LeafTable) (ports : List ℕ) (e : Policy)
    (each : EachMember (λ i. HasSoundTable (slice_get tables i)) e) where
  abbrev sizes : ℕ → ℕ
  sizes i = table_size (slice_get tables i)

  abbrev rules : ℕ → List Rule
  rules i = table_rules ports (slice_get tables i)

  members : EachMember (AreSoundLeaves (λ p. has_port ports p) sizes rules (λ i. table_meaning (slice_get tables i))) e
  members =
      each-member (λ i. HasSoundTable (slice_get tables i))
      (AreSoundLeaves (λ p. has_port ports p) sizes rules (λ i. table_meaning (slice_get tables i)))
      (λ i t. record {
        says = λ h at. table-says ports (slice_get tables i) t h at;
        sound = table-sound ports (slice_get tables i) t;
      }) e each

  expression-says : (h : HeaderOf) → has_port ports h.in_port ≡ true
      → Says h (rules_of sizes rules e) (size_of sizes e) (evaluate (λ i. table_meaning (slice_get tables i)) e h)
  expression-says h at = central (λ p. has_port ports p) sizes rules (λ i. table_meaning (slice_get tables i)) e members
      h at

  expression-sound : EachLeft (λ i. HasPlainTable (slice_get tables i)) e
      → AllByRecursion IsSound (rules_of sizes rules e)
  expression-sound lefts =
      rules-are-sound sizes rules e
      (each-member (λ i. HasSoundTable (slice_get tables i)) (λ i. AllByRecursion IsSound (rules i))
      (λ i t. table-sound ports (slice_get tables i) t) e each)
      (each-left (λ i. HasPlainTable (slice_get tables i)) (IsPlainLeaf rules)
      (λ i t. table-plain ports (slice_get tables i) t) e lefts)

pub every_expression : EveryExpression
every_expression tables ports e each h at = expression-says tables ports e each h at

pub expressions_are_sound : ExpressionsAreSound
expressions_are_sound tables ports e each lefts = expression-sound tables ports e each lefts

-- a virtual switch by its expression
module _ (tables : List LeafTable) (s : VirtualSwitch) (good : IsSoundSwitch tables s) where
  pub switch-says : (h : HeaderOf) → has_port (ports_of s) h.in_port ≡ true
      → Says h (switch_rules tables (Some s)) (switch_size tables (Some s)) (switch_meaning tables (Some s) h)
  switch-says h at = expression-says tables (ports_of s) s.expr good.members h at

  pub switch-sound : AllByRecursion IsSound (switch_rules tables (Some s))
  switch-sound = expression-sound tables (ports_of s) s.expr good.members good.lefts

module _ (tables : List LeafTable) where
  any-says : (o : Option VirtualSwitch) → ((s : VirtualSwitch) → o ≡ Some s → IsSoundSwitch tables s) → (h : HeaderOf)
      → switch_has o h.in_port ≡ true
      → Says h (switch_rules tables o) (switch_size tables o) (switch_meaning tables o h)
  any-says None good h at = absurd (true_not_false (sym at))
  any-says (Some s) good h at = switch-says tables s (good s refl) h at

  any-sound : (o : Option VirtualSwitch) → ((s : VirtualSwitch) → o ≡ Some s → IsSoundSwitch tables s)
      → AllByRecursion IsSound (switch_rules tables o)
  any-sound None good = tt
  any-sound (Some s) good = switch-sound tables s (good s refl)

pub sound-fabric : (net : Network) → IsSoundNetwork net
    → IsSoundFabric (fabric_of net) (ground_of net).means (ground_of net).spread
    (λ v p. switch_has (slice_get net.switches v) p)
sound-fabric net good = record {
  says = λ v h at. any-says net.tables (slice_get net.switches v) (good.switches v) h at;
  sound = λ v. any-sound net.tables (slice_get net.switches v) (good.switches v);
  peers = good.peers;
}

pub every_node : EveryNode
every_node net good n v h e =
    let s = split_and (switch_has (slice_get net.switches v) h.in_port)
    (takes (switch_spread (slice_get net.switches v)) h) e in
    hop_fact (fabric_of net) (ground_of net).means (ground_of net).spread
    (λ v p. switch_has (slice_get net.switches v) p) (sound-fabric net good) n v h s.0 s.1
