-- The values that rules set are in their ranges.
use Rattle.std.proofs.Common.{◌≡◌, ℕ, zero, suc, ◌<◌, ◌^◌, ◌%◌, Bool, true, false, List, [], ◌∷◌, ◌++◌, Option, Some}
use Rattle.std.proofs.Common.{None, refl, subst}
use Rattle.std.specs.Prelude.{◌==◌, ◌&&◌, IfSome, filter_map, flat_map, if◌then◌else◌, map, slice_get}
use Rattle.std.specs.List.{AllByRecursion}
use Rattle.std.specs.Option.{option_or}
use Rattle.of10_match.specs.Fields.{MatchOf}
use Rattle.of10_match.specs.Matching.{at_port, overlaps}
use Rattle.of10_actions.specs.Fields.{RewriteOf}
use Rattle.of10_actions.specs.Rewriting.{and_then, no_rewrite}
use Rattle.of10_actions.specs.declared.effects.Dest.{Dest}
use Rattle.of10_actions.specs.declared.effects.Dest.TheVariants.{Port, Flood, Ingress, Tell}
use Rattle.of10_actions.specs.declared.effects.Out.{Out}
use Rattle.of10_actions.specs.declared.effects.Tail.{Tail}
use Rattle.of10_actions.specs.declared.effects.Tail.TheVariants.{Link, Nothing, Pass}
use Rattle.pull_back.specs.Pulling.{can_pull, pulled}
use Rattle.policy_expr.specs.Policy.{Policy, member, override, parallel, sequential}
use Rattle.policy_expr.specs.Sizes.{size_of}
use Rattle.policy_meaning.specs.Hops.{Fabric, at_node, hop_rule, hop_size, hopped, hops_on, last_rule, leads, node}
use Rattle.policy_meaning.specs.Hops.{out_at, outs_at, peers_size, without_port}
use Rattle.policy_meaning.specs.LeafRules.{cells, entry_rule, has_outside, in_cells, leaf_rules, miss_rule}
use Rattle.policy_meaning.specs.LeafRules.{outside_rule, rule_met}
use Rattle.policy_meaning.specs.Meaning.{out_after, tail_after}
use Rattle.policy_meaning.specs.Networks.{fabric_of, ports_of, switch_rules, table_rules, table_size}
use Rattle.policy_meaning.specs.Ranged.{AllInRange, EntriesInRange, NodesAreInRange, RuleInRange, RulesAreInRange}
use Rattle.policy_meaning.specs.Ranged.{SetsInRange, TailInRange}
use Rattle.policy_meaning.specs.Rules.{rules_of}
use Rattle.policy_meaning.specs.Switches.{SwitchOf}
use Rattle.policy_meaning.specs.declared.leaf.LeafEntry.{LeafEntry}
use Rattle.policy_meaning.specs.declared.leaf.LeafTable.{LeafTable}
use Rattle.policy_meaning.specs.declared.network.Onward.{Onward}
use Rattle.policy_meaning.specs.declared.rule.Rule.{Rule}
use Rattle.policy_meaning.proofs.Booleans.{some_injective}
use Rattle.policy_meaning.proofs.Cells.{narrowed}
use Rattle.policy_meaning.proofs.Lists.{all-append, all-each, all-filter_map, all-flat_map, all-mapped}
use Rattle.policy_meaning.proofs.Meeting.{some_met, some_pulled}
use Rattle.policy_meaning.proofs.Nodes.{link_of}
use Rattle.policy_meaning.proofs.Pairs.{each-chain, each-shift, each-sum}
use Rattle.policy_meaning.proofs.Peers.{leading}

abbrev OutInRange : Out → Type 0
OutInRange o = SetsInRange o.rewrite

abbrev AreIn : List Rule → Type 0
AreIn rules = AllByRecursion RuleInRange rules

-- of two values the first that is there
either-range : (P : ℕ → Type 0) (a b : Option ℕ) → IfSome a P → IfSome b P → IfSome (option_or a b) P
either-range P None b p q = q
either-range P (Some x) b p q = p

then-range : (r s : RewriteOf) → SetsInRange r → SetsInRange s → SetsInRange (and_then r s)
then-range r s f g = record {
  dl_src = either-range (λ v. v < 2 ^ 48) s.dl_src r.dl_src g.dl_src f.dl_src;
  dl_dst = either-range (λ v. v < 2 ^ 48) s.dl_dst r.dl_dst g.dl_dst f.dl_dst;
  nw_tos = either-range (λ v. v % 4 ≡ 0) s.nw_tos r.nw_tos g.nw_tos f.nw_tos;
}

nothing-range : SetsInRange no_rewrite
nothing-range = record { dl_src = tt; dl_dst = tt; nw_tos = tt }

-- what stands after a rewrite
tail-then : (r : RewriteOf) → SetsInRange r → (t : Tail) → TailInRange t → TailInRange (tail_after r t)
tail-then r f Nothing g = tt
tail-then r f (Pass s) g = then-range r s f g
tail-then r f (Link s port) g = then-range r s f g

outs-then : (r : RewriteOf) → SetsInRange r → (before outs : List Out) → AllByRecursion OutInRange before
    → AllByRecursion OutInRange outs → AllByRecursion OutInRange (before ++ map (out_after r) outs)
outs-then r f before outs p g = all-append OutInRange before (map (out_after r) outs) p
    (all-mapped OutInRange OutInRange (out_after r) outs (λ o q. then-range r o.rewrite f q) g)

-- the rules of a table
module _ (ports : List ℕ) (t : LeafTable) (good : EntriesInRange t) where
  placed-range : (a : Rule) → RuleInRange a → AreIn (in_cells (cells ports t) a)
  placed-range a w =
      all-filter_map (λ (m : MatchOf). Unit {0}) RuleInRange (rule_met a) (cells ports t)
      (λ m c e _. subst (λ (z : Rule). RuleInRange z) (some_met (narrowed a) a.m m c e).1 w)
      (all-each (λ (m : MatchOf). Unit {0}) (cells ports t) (λ m. tt))

  miss-range : (b : Bool) → t.misses ≡ b → AllByRecursion OutInRange (miss_rule t).outs
  miss-range true e = rw e (nothing-range, tt)
  miss-range false e = rw e tt

  outer-range : (b : Bool) → AreIn (if b then outside_rule t ∷ [] else [])
  outer-range true = ((tt, tt), tt)
  outer-range false = tt

  table-range : AreIn (leaf_rules ports t)
  table-range =
      all-append RuleInRange (if has_outside ports t then outside_rule t ∷ [] else [])
      (flat_map (in_cells (cells ports t)) (miss_rule t ∷ map (entry_rule t) t.entries))
      (outer-range (has_outside ports t))
      (all-flat_map RuleInRange RuleInRange (in_cells (cells ports t)) (miss_rule t ∷ map (entry_rule t) t.entries)
      placed-range (
        (miss-range t.misses refl, tt),
        all-mapped (λ (e : LeafEntry). AllInRange e.effects.outs e.effects.tail)
            RuleInRange (entry_rule t) t.entries (λ e w. w) good,
      ))

found-range : (tables : List LeafTable) → AllByRecursion EntriesInRange tables → (i : ℕ) (t : LeafTable)
    → slice_get tables i ≡ Some t → EntriesInRange t
found-range [] a i t e = cc
found-range (x ∷ xs) a zero t e = subst EntriesInRange (some_injective e) a.0
found-range (x ∷ xs) a (suc i) t e = found-range xs a.1 i t e

member-range : (ports : List ℕ) (o : Option LeafTable) → ((t : LeafTable) → o ≡ Some t → EntriesInRange t)
    → AreIn (table_rules ports o)
member-range ports None f = tt
member-range ports (Some t) f = table-range ports t (f t refl)

-- the rules of an expression
module _ (sizes : ℕ → ℕ) (rules : ℕ → List Rule) (each : (i : ℕ) → AreIn (rules i)) where
  rules-range : (e : Policy) → AreIn (rules_of sizes rules e)
  rules-range (member i) = each i
  rules-range (parallel a b) =
      each-sum RuleInRange RuleInRange RuleInRange (λ x y p q o. (all-append OutInRange x.outs y.outs p.0 q.0, q.1))
      (rules_of sizes rules a) (rules_of sizes rules b) (rules-range a) (rules-range b)
  rules-range (sequential a b) =
      each-chain RuleInRange RuleInRange RuleInRange (size_of sizes b) (λ x p. p)
      (λ x y r t p q o. let f : SetsInRange r = subst TailInRange t p.1 in
      (outs-then r f x.outs y.outs p.0 q.0, tail-then r f y.tail q.1))
      (rules_of sizes rules a) (rules_of sizes rules b) (rules-range a) (rules-range b)
  rules-range (override a b) =
      each-shift RuleInRange RuleInRange RuleInRange (size_of sizes b) (λ x p. p) (rules_of sizes rules a)
      (rules_of sizes rules b) (rules-range a) (rules-range b)

pub rules-are-in-range : RulesAreInRange
rules-are-in-range tables good ports e =
    rules-range (λ i. table_size (slice_get tables i)) (λ i. table_rules ports (slice_get tables i))
    (λ i. member-range ports (slice_get tables i) (λ t f. found-range tables good i t f)) e

-- outs at a node
out-kept : (b : Bool) (o y : Out) → OutInRange o → (if b then None else Some o) ≡ Some y → OutInRange y
out-kept true o y p e = cc
out-kept false o y p e = subst (λ (z : Out). OutInRange z) (some_injective e) p

out-range : (v port : ℕ) (r : RewriteOf) (d : Dest) (y : Out) → SetsInRange r → out_at v port r d ≡ Some y
    → OutInRange y
out-range v port r (Port w p) y f e = out-kept ((w == v) && (p == port)) (record { rewrite = r; dest = Port w p }) y f e
out-range v port r (Flood w p) y f e = out-kept ((w == v) && (p == port)) (record { rewrite = r; dest = Flood w p }) y f
    e
out-range v port r Ingress y f e = subst (λ (z : Out). OutInRange z) (some_injective e) f
out-range v port r (Tell who reason) y f e = subst (λ (z : Out). OutInRange z) (some_injective e) f

here-range : (v port : ℕ) (outs : List Out) → AllByRecursion OutInRange outs
    → AllByRecursion OutInRange (outs_at v port outs)
here-range v port outs g = all-filter_map OutInRange OutInRange (λ (o : Out). out_at v port o.rewrite o.dest) outs
    (λ x y e f. out-range v port x.rewrite x.dest y f e) g

-- the rules of a node
module _ (f : Fabric) (rules : (v : ℕ) → AreIn (f.rules v)) where
  linked-range : (v port size : ℕ) (r : RewriteOf) (x b y : Rule) → SetsInRange r → RuleInRange x → RuleInRange b
      → hop_rule size r (at_node v port x) b ≡ Some y → RuleInRange y
  linked-range v port size r x b y g p q e =
      let a = at_node v port x in
      let s : (can_pull r (without_port b.m) ≡ true) × (overlaps a.m (pulled r (without_port b.m)) ≡ true)
      × (link_of size r a b ≡ y) = some_pulled (hopped size r a b) a.m (without_port b.m) r y e in
      subst (λ (z : Rule). RuleInRange z) s.2 (outs-then r g a.outs b.outs (here-range v port x.outs p.0) q.0, tt)

  module _ (m : ℕ) (before : (u port : ℕ) → AreIn (node f m u port)) where
    made-range : (v port size : ℕ) (x : Rule) → RuleInRange x → (o : Option Onward) → leads x.tail (f.links v) port ≡ o
        → AreIn (hops_on o (node f m) size (at_node v port x))
    made-range v port size x p None e = ((here-range v port x.outs p.0, tt), tt)
    made-range v port size x p (Some on) e =
        let l = leading x.tail (f.links v) port on e in
        let g : SetsInRange on.rewrite = subst TailInRange l.tail p.1 in
        all-filter_map RuleInRange RuleInRange (hop_rule size on.rewrite (at_node v port x))
        (node f m on.place.v on.place.port)
        (λ b y u q. linked-range v port size on.rewrite x b y g p q u) (before on.place.v on.place.port)

  node-range : (m v port : ℕ) → AreIn (node f m v port)
  node-range zero v port = ((tt, tt), tt)
  node-range (suc m) v port =
      all-flat_map RuleInRange RuleInRange
      (λ (a : Rule). hops_on (leads a.tail (f.links v) port) (node f m) (peers_size (hop_size f m) (f.links v))
      (at_node v port a))
      (filter_map (λ a. rule_met a (at_port port)) (f.rules v))
      (λ x w. made-range m (node-range m) v port (peers_size (hop_size f m) (f.links v)) x w
      (leads x.tail (f.links v) port) refl)
      (all-filter_map RuleInRange RuleInRange (λ a. rule_met a (at_port port)) (f.rules v)
      (λ x y e w. subst (λ (z : Rule). RuleInRange z) (some_met (narrowed x) x.m (at_port port) y e).1 w) (rules v))

pub switch-range : (tables : List LeafTable) → AllByRecursion EntriesInRange tables → (o : Option SwitchOf)
    → AreIn (switch_rules tables o)
switch-range tables good None = tt
switch-range tables good (Some s) = rules-are-in-range tables good (ports_of s) s.expr

pub nodes-are-in-range : NodesAreInRange
nodes-are-in-range net good hops v port = node-range (fabric_of net)
    (λ u. switch-range net.tables good (slice_get net.switches u)) hops v port
