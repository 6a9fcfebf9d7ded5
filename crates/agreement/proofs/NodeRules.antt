-- What is known of each rule of a node: it names its port, and no out of it goes to the ingress.
use Rattle.std.proofs.Common.{◌≡◌, ℕ, zero, suc, Bool, true, false, List, Option, Some, None, refl, ap, subst, eqb-true}
use Rattle.std.specs.Prelude.{filter_map, if◌then◌else◌, map, ◌==◌, ◌&&◌}
use Rattle.std.specs.List.{AllByRecursion}
use Rattle.of10_match.specs.Matching.{agree, at_port, either}
use Rattle.of10_actions.specs.Fields.{RewriteOf}
use Rattle.pull_back.specs.Pulling.{pulled}
use Rattle.of10_actions.specs.declared.effects.Dest.{Dest}
use Rattle.of10_actions.specs.declared.effects.Dest.TheVariants.{Port, Flood, Ingress, Tell}
use Rattle.of10_actions.specs.declared.effects.Out.{Out}
use Rattle.policy_meaning.specs.Hops.{Fabric, at_node, hop_rule, hop_size, hopped, hops_on, leads, node, out_at}
use Rattle.policy_meaning.specs.Hops.{outs_at, peers_size, without_port}
use Rattle.policy_meaning.specs.LeafRules.{rule_met}
use Rattle.policy_meaning.specs.Meaning.{out_after}
use Rattle.policy_meaning.specs.declared.network.Onward.{Onward}
use Rattle.policy_meaning.specs.declared.rule.Rule.{Rule}
use Rattle.policy_meaning.proofs.Booleans.{some_injective, split_and}
use Rattle.policy_meaning.proofs.Cells.{narrowed}
use Rattle.policy_meaning.proofs.Lists.{all-append, all-each, all-filter_map, all-flat_map, all-mapped}
use Rattle.policy_meaning.proofs.Meeting.{some_met, some_pulled}
use Rattle.agreement.specs.Followed.{AreNumbered, IsNumbered}

-- the rule names the port
abbrev pub Names : ℕ → Rule → Type 0
Names port r = r.m.in_port ≡ Some port

-- anything
abbrev Any : {A : Type 0} → A → Type 0
Any x = Unit {0}

named : (o : Option ℕ) (port : ℕ) → agree o (Some port) ≡ true → either o (Some port) ≡ Some port
named None port e = refl
named (Some w) port e = ap Some (eqb-true w port e)

met-names : (port : ℕ) (x y : Rule) → rule_met x (at_port port) ≡ Some y → Names port y
met-names port x y e =
    let s = some_met (narrowed x) x.m (at_port port) y e in
    subst (λ (z : Rule). Names port z) s.1 (named x.m.in_port port (split_and _ _ s.0).0)

linked-names : (port k : ℕ) (r : RewriteOf) (a b y : Rule) → Names port a → hop_rule k r a b ≡ Some y → Names port y
linked-names port k r a b y g e =
    let s = some_pulled (hopped k r a b) a.m (without_port b.m) r y e in
    subst (λ (z : Rule). Names port z) s.2 (ap (λ (o : Option ℕ). either o (pulled r (without_port b.m)).in_port) g)

out-numbered : (b : Bool) (o y : Out) → IsNumbered o.dest → (if b then None else Some o) ≡ Some y → IsNumbered y.dest
out-numbered true o y g e = cc
out-numbered false o y g e = subst (λ (z : Out). IsNumbered z.dest) (some_injective e) g

at-numbered : (v port : ℕ) (r : RewriteOf) (d : Dest) (y : Out) → out_at v port r d ≡ Some y → IsNumbered y.dest
at-numbered v port r (Port w p) y e = out-numbered ((w == v) && (p == port)) (record { rewrite = r; dest = Port w p }) y
    tt e
at-numbered v port r (Flood w p) y e = out-numbered ((w == v) && (p == port)) (record { rewrite = r; dest = Flood w p })
    y tt e
at-numbered v port r Ingress y e = subst (λ (z : Out). IsNumbered z.dest) (some_injective e) tt
at-numbered v port r (Tell member reason) y e = subst (λ (z : Out). IsNumbered z.dest) (some_injective e) tt

here-numbered : (v port : ℕ) (outs : List Out) → AreNumbered (outs_at v port outs)
here-numbered v port outs =
    all-filter_map Any (λ (o : Out). IsNumbered o.dest) (λ (o : Out). out_at v port o.rewrite o.dest) outs
    (λ x y e _. at-numbered v port x.rewrite x.dest y e) (all-each Any outs (λ x. tt))

after-numbered : (r : RewriteOf) (outs : List Out) → AreNumbered outs → AreNumbered (map (out_after r) outs)
after-numbered r outs g = all-mapped (λ (o : Out). IsNumbered o.dest) (λ (o : Out). IsNumbered o.dest) (out_after r)
    outs (λ x n. n) g

linked-numbered : (k : ℕ) (r : RewriteOf) (a b y : Rule) → AreNumbered a.outs → AreNumbered b.outs
    → hop_rule k r a b ≡ Some y → AreNumbered y.outs
linked-numbered k r a b y f g e =
    let s = some_pulled (hopped k r a b) a.m (without_port b.m) r y e in
    subst (λ (z : Rule). AreNumbered z.outs) s.2
    (all-append (λ (o : Out). IsNumbered o.dest) a.outs (map (out_after r) b.outs) f (after-numbered r b.outs g))

module _ (f : Fabric) where
  on-names : (n port k : ℕ) (a : Rule) (o : Option Onward) → Names port a
      → AllByRecursion (Names port) (hops_on o (node f n) k a)
  on-names n port k a None g = (g, tt)
  on-names n port k a (Some on) g =
      let there = node f n on.place.v on.place.port in
      all-filter_map Any (Names port) (hop_rule k on.rewrite a) there
      (λ b y e _. linked-names port k on.rewrite a b y g e) (all-each Any there (λ x. tt))

  -- each rule of a node of a hop or more names the port
  pub node-names : (n v port : ℕ) → AllByRecursion (Names port) (node f (suc n) v port)
  node-names n v port =
      all-flat_map (Names port) (Names port)
      (λ (a : Rule). hops_on (leads a.tail (f.links v) port) (node f n) (peers_size (hop_size f n) (f.links v))
      (at_node v port a))
      (filter_map (λ a. rule_met a (at_port port)) (f.rules v))
      (λ x g. on-names n port (peers_size (hop_size f n) (f.links v)) (at_node v port x) (leads x.tail (f.links v) port)
      g)
      (all-filter_map Any (Names port) (λ a. rule_met a (at_port port)) (f.rules v) (λ x y e _. met-names port x y e)
      (all-each Any (f.rules v) (λ x. tt)))

  on-numbered : (n : ℕ) → ((u port : ℕ) → AllByRecursion (λ (r : Rule). AreNumbered r.outs) (node f n u port))
      → (k : ℕ) (a : Rule) → AreNumbered a.outs → (o : Option Onward)
      → AllByRecursion (λ (r : Rule). AreNumbered r.outs) (hops_on o (node f n) k a)
  on-numbered n before k a own None = (own, tt)
  on-numbered n before k a own (Some on) =
      all-filter_map (λ (r : Rule). AreNumbered r.outs) (λ (r : Rule). AreNumbered r.outs) (hop_rule k on.rewrite a)
      (node f n on.place.v on.place.port)
      (λ b y e g. linked-numbered k on.rewrite a b y own g e) (before on.place.v on.place.port)

  -- and no out of it goes to the ingress but by its number
  pub node-numbered : (n v port : ℕ) → AllByRecursion (λ (r : Rule). AreNumbered r.outs) (node f n v port)
  node-numbered zero v port = (tt, tt)
  node-numbered (suc n) v port =
      all-flat_map Any (λ (r : Rule). AreNumbered r.outs)
      (λ (a : Rule). hops_on (leads a.tail (f.links v) port) (node f n) (peers_size (hop_size f n) (f.links v))
      (at_node v port a))
      (filter_map (λ a. rule_met a (at_port port)) (f.rules v))
      (λ x _. on-numbered n (node-numbered n) (peers_size (hop_size f n) (f.links v)) (at_node v port x)
      (here-numbered v port x.outs) (leads x.tail (f.links v) port))
      (all-each Any (filter_map (λ a. rule_met a (at_port port)) (f.rules v)) (λ x. tt))
