-- The rules of a node are below its size, normal, and of its port.
use Rattle.std.proofs.Common.{◌≡◌, ℕ, zero, suc, ◌*◌, Bool, true, false, ◌&&◌, ◌==◌, Option, Some, None, refl, subst}
use Rattle.std.proofs.Common.{arith}
use Rattle.std.specs.Prelude.{filter_map}
use Rattle.std.specs.List.{AllByRecursion}
use Rattle.of10_match.specs.Fields.{MatchOf}
use Rattle.of10_match.specs.Matching.{agree, at_port, either, overlaps}
use Rattle.of10_match.proofs.NormalMeet.{IsNormal-both}
use Rattle.pull_back.specs.Pulling.{pulled}
use Rattle.pull_back.proofs.Normality.{normal-pulled}
use Rattle.policy_meaning.specs.Hops.{Fabric, at_node, hop_rule, hop_size, hopped, hops_on, leads, node, peers_size}
use Rattle.policy_meaning.specs.Hops.{without_port}
use Rattle.policy_meaning.specs.LeafRules.{rule_met}
use Rattle.policy_meaning.specs.declared.network.Onward.{Onward}
use Rattle.policy_meaning.specs.declared.rule.Rule.{Rule}
use Rattle.policy_meaning.proofs.Cells.{narrowed}
use Rattle.policy_meaning.proofs.Chains.{high}
use Rattle.policy_meaning.proofs.Lists.{all-filter_map, all-flat_map}
use Rattle.policy_meaning.proofs.Meeting.{some_met, some_pulled}
use Rattle.policy_meaning.proofs.Normality.{normal-at_port, normal-everything, normal-without_port}
use Rattle.policy_meaning.proofs.Peers.{leading, peer-size, positive}
use Rattle.hop_rules.specs.Nodes.{IsAt, IsOwn}
use Rattle.hop_rules.proofs.Names.{is-same, itself}

turned-same : (p q : ℕ) → (p == q) ≡ true → (q == p) ≡ true
turned-same p q e = subst (λ z. (z == p) ≡ true) (is-same p q e) (itself p)

and-first : (a b : Bool) → (a && b) ≡ true → a ≡ true
and-first true b e = refl
and-first false b e = e

port-agrees : (m n : MatchOf) → overlaps m n ≡ true → agree m.in_port n.in_port ≡ true
port-agrees m n e = and-first _ _ e

either-port : (o : Option ℕ) (port : ℕ) → agree o (Some port) ≡ true → agree (Some port) (either o (Some port)) ≡ true
either-port None port e = itself port
either-port (Some p) port e = turned-same p port e

either-open : (o : Option ℕ) (port : ℕ) → agree (Some port) o ≡ true → agree (Some port) (either o None) ≡ true
either-open None port e = refl
either-open (Some p) port e = e

module _ (f : Fabric) (own : (v : ℕ) → AllByRecursion (IsOwn (f.sizes v)) (f.rules v)) where
  met-at : (n port : ℕ) (x y : Rule) → rule_met x (at_port port) ≡ Some y → IsOwn n x → IsAt n port y
  met-at n port x y e o =
      let s = some_met (narrowed x) x.m (at_port port) y e in
      subst (IsAt n port) s.1 (record {
        below = o.below;
        normal = IsNormal-both x.m (at_port port) s.0 o.normal (normal-at_port port);
        arrives = either-port x.m.in_port port (port-agrees x.m (at_port port) s.0);
      })

  module _ (n v port : ℕ) (before : (u p : ℕ) → AllByRecursion (IsAt (hop_size f n u) p) (node f n u p)) where
    abbrev size : ℕ
    size = f.sizes v

    abbrev over : ℕ
    over = peers_size (hop_size f n) (f.links v)

    made-at : (a : Rule) → IsAt size port a → (o : Option Onward) → leads a.tail (f.links v) port ≡ o
        → AllByRecursion (IsAt (size * over) port) (hops_on o (node f n) over (at_node v port a))
    made-at a i None e =
        (record { below = high a.level size over 0 i.below (positive _); normal = i.normal; arrives = i.arrives }, tt)
    made-at a i (Some on) e =
        let l = leading a.tail (f.links v) port on e in
        let le = peer-size (hop_size f n) (f.links v) l.by on.place l.peer in
        let there = node f n on.place.v on.place.port in
        all-filter_map (IsAt (hop_size f n on.place.v) on.place.port) (IsAt (size * over) port)
        (hop_rule over on.rewrite (at_node v port a)) there
        (λ b y u ib. let s = some_pulled (hopped over on.rewrite (at_node v port a) b) a.m (without_port b.m) on.rewrite
        y u in
        subst (IsAt (size * over) port) s.2 (record {
          below = let lb = ib.below in high a.level size over b.level i.below (omega arith);
          normal = IsNormal-both a.m (pulled on.rewrite (without_port b.m)) s.1 i.normal
              (normal-pulled on.rewrite (without_port b.m) (normal-without_port b.m ib.normal));
          arrives = either-open a.m.in_port port i.arrives;
        }))
        (before on.place.v on.place.port)

  pub node-fits : (n v port : ℕ) → AllByRecursion (IsAt (hop_size f n v) port) (node f n v port)
  node-fits zero v port = (record { below = omega arith; normal = normal-everything; arrives = refl }, tt)
  node-fits (suc n) v port =
      let size = f.sizes v in
      all-flat_map (IsAt size port) (IsAt (hop_size f (suc n) v) port) _
      (filter_map (λ a. rule_met a (at_port port)) (f.rules v))
      (λ a i. made-at n v port (λ u p. node-fits n u p) a i (leads a.tail (f.links v) port) refl)
      (all-filter_map (IsOwn size) (IsAt size port) (λ a. rule_met a (at_port port)) (f.rules v)
      (λ x y e o. met-at size port x y e o) (own v))
