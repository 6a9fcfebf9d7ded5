-- The matches of rules are normal and in their ranges, and what rules set fits the types of fields.
use Rattle.std.proofs.Common.{◌≡◌, ℕ, zero, suc, ◌<◌, ◌^◌, Bool, true, false, List, [], ◌∷◌, ◌++◌, Option, Some, None}
use Rattle.std.proofs.Common.{refl, subst}
use Rattle.std.specs.Prelude.{◌==◌, ◌&&◌, IfSome, filter_map, flat_map, if◌then◌else◌, map, slice_get}
use Rattle.std.specs.List.{AllByRecursion}
use Rattle.std.specs.Option.{option_or}
use Rattle.of10_match.specs.Fields.{MatchOf}
use Rattle.of10_match.specs.Matching.{at_port, both, everything, is_longer, longer, meet, overlaps}
use Rattle.of10_match.specs.Normal.{IsNormal}
use Rattle.of10_match.specs.Ranges.{IsMatch, IsPrefix, IsTos, IsVlan}
use Rattle.of10_match.specs.declared.header.Prefix.{Prefix}
use Rattle.of10_match.proofs.NormalMeet.{IsNormal-both}
use Rattle.of10_actions.specs.Fields.{RewriteOf}
use Rattle.of10_actions.specs.Rewriting.{and_then, no_rewrite}
use Rattle.of10_actions.specs.declared.effects.Dest.{Dest}
use Rattle.of10_actions.specs.declared.effects.Dest.TheVariants.{Flood, Ingress, Port, Tell}
use Rattle.of10_actions.specs.declared.effects.Out.{Out}
use Rattle.of10_actions.specs.declared.effects.Tail.{Tail}
use Rattle.of10_actions.specs.declared.effects.Tail.TheVariants.{Link, Nothing, Pass}
use Rattle.policy_expr.specs.Policy.{Policy, member, override, parallel, sequential}
use Rattle.policy_expr.specs.Sizes.{size_of}
use Rattle.policy_meaning.specs.Hops.{Fabric, at_node, hop_rule, hop_size, hopped, hops_on, leads, node, out_at}
use Rattle.policy_meaning.specs.Hops.{outs_at}
use Rattle.policy_meaning.specs.Hops.{peers_size, without_port}
use Rattle.policy_meaning.specs.LeafRules.{cells, cut, entry_rule, has_outside, hides, in_cells, leaf_rules, miss_rule}
use Rattle.policy_meaning.specs.LeafRules.{outside_rule, rule_met}
use Rattle.policy_meaning.specs.Meaning.{out_after, tail_after}
use Rattle.policy_meaning.specs.Networks.{fabric_of, ports_of, switch_rules, table_rules, table_size}
use Rattle.policy_meaning.specs.Rules.{rules_of}
use Rattle.policy_meaning.specs.Switches.{SwitchOf}
use Rattle.policy_meaning.specs.declared.leaf.LeafEntry.{LeafEntry}
use Rattle.policy_meaning.specs.declared.leaf.LeafTable.{LeafTable}
use Rattle.policy_meaning.specs.declared.network.Network.{Network}
use Rattle.policy_meaning.specs.declared.network.Onward.{Onward}
use Rattle.policy_meaning.specs.declared.rule.Rule.{Rule}
use Rattle.policy_meaning.proofs.Booleans.{some_injective}
use Rattle.policy_meaning.proofs.Cells.{narrowed}
use Rattle.policy_meaning.proofs.Lists.{all-append, all-each, all-filter_map, all-flat_map, all-mapped}
use Rattle.policy_meaning.proofs.Meeting.{some_meet, some_met, some_pulled}
use Rattle.policy_meaning.proofs.Nodes.{link_of}
use Rattle.policy_meaning.proofs.Normality.{normal-at_port, normal-everything, normal-without_port}
use Rattle.policy_meaning.proofs.Pairs.{each-chain, each-shift, each-sum}
use Rattle.policy_meaning.proofs.Peers.{leading}
use Rattle.pull_back.specs.Pulling.{can_pull, pulled, sets_nw, sets_tp, unset}
use Rattle.pull_back.proofs.Normality.{normal-pulled}

-- matches -----------------------------------------------------------------------------------------------------------

-- a match is normal, and its values are in their ranges, whatever its port
pub record IsFine (m : MatchOf) : Type 0 where
  pub ranged : IsMatch (without_port m)
  pub normal : IsNormal m

-- of two values the first that is there
either-fits : (P : ℕ → Type 0) (a b : Option ℕ) → IfSome a P → IfSome b P → IfSome (option_or a b) P
either-fits P None b p q = q
either-fits P (Some x) b p q = p

longer-fits : (a b : Option Prefix) → IfSome a IsPrefix → IfSome b IsPrefix → IfSome (longer a b) IsPrefix
longer-fits None b p q = q
longer-fits (Some x) None p q = p
longer-fits (Some x) (Some y) p q = by (is_longer y x)
  where
    by : (b : Bool) → IfSome (if b then Some y else Some x) IsPrefix
    by true = q
    by false = p

pub fine-both : (m n : MatchOf) → overlaps m n ≡ true → IsFine m → IsFine n → IsFine (both m n)
fine-both m n e f g =
    let p = f.ranged in
    let q = g.ranged in
    record {
      ranged = record {
        in_port = tt;
        dl_src = either-fits (λ v. v < 2 ^ 48) m.dl_src n.dl_src p.dl_src q.dl_src;
        dl_dst = either-fits (λ v. v < 2 ^ 48) m.dl_dst n.dl_dst p.dl_dst q.dl_dst;
        dl_vlan = either-fits IsVlan m.dl_vlan n.dl_vlan p.dl_vlan q.dl_vlan;
        dl_vlan_pcp = either-fits (λ v. v < 8) m.dl_vlan_pcp n.dl_vlan_pcp p.dl_vlan_pcp q.dl_vlan_pcp;
        dl_type = either-fits (λ v. v < 2 ^ 16) m.dl_type n.dl_type p.dl_type q.dl_type;
        nw_tos = either-fits IsTos m.nw_tos n.nw_tos p.nw_tos q.nw_tos;
        nw_proto = either-fits (λ v. v < 2 ^ 8) m.nw_proto n.nw_proto p.nw_proto q.nw_proto;
        nw_src = longer-fits m.nw_src n.nw_src p.nw_src q.nw_src;
        nw_dst = longer-fits m.nw_dst n.nw_dst p.nw_dst q.nw_dst;
        tp_src = either-fits (λ v. v < 2 ^ 16) m.tp_src n.tp_src p.tp_src q.tp_src;
        tp_dst = either-fits (λ v. v < 2 ^ 16) m.tp_dst n.tp_dst p.tp_dst q.tp_dst;
      };
      normal = IsNormal-both m n e f.normal g.normal;
    }

unset-fits : {A : Type 0} (P : A → Type 0) (b : Bool) (o : Option ℕ) (m : Option A) → IfSome m P
    → IfSome (unset b o m) P
unset-fits P b None m p = p
unset-fits P true (Some v) m p = tt
unset-fits P false (Some v) m p = p

fine-pulled : (r : RewriteOf) (m : MatchOf) → IsFine m → IsFine (pulled r m)
fine-pulled r m f =
    let p = f.ranged in
    record {
      ranged = record {
        in_port = tt;
        dl_src = unset-fits (λ v. v < 2 ^ 48) true r.dl_src m.dl_src p.dl_src;
        dl_dst = unset-fits (λ v. v < 2 ^ 48) true r.dl_dst m.dl_dst p.dl_dst;
        dl_vlan = p.dl_vlan;
        dl_vlan_pcp = p.dl_vlan_pcp;
        dl_type = p.dl_type;
        nw_tos = unset-fits IsTos (sets_nw m) r.nw_tos m.nw_tos p.nw_tos;
        nw_proto = p.nw_proto;
        nw_src = unset-fits IsPrefix (sets_nw m) r.nw_src m.nw_src p.nw_src;
        nw_dst = unset-fits IsPrefix (sets_nw m) r.nw_dst m.nw_dst p.nw_dst;
        tp_src = unset-fits (λ v. v < 2 ^ 16) (sets_tp m) r.tp_src m.tp_src p.tp_src;
        tp_dst = unset-fits (λ v. v < 2 ^ 16) (sets_tp m) r.tp_dst m.tp_dst p.tp_dst;
      };
      normal = normal-pulled r m f.normal;
    }

fine-without : (m : MatchOf) → IsFine m → IsFine (without_port m)
fine-without m f = record { ranged = f.ranged; normal = normal-without_port m f.normal }

ranged-everything : IsMatch everything
ranged-everything = record {
  in_port = tt;
  dl_src = tt;
  dl_dst = tt;
  dl_vlan = tt;
  dl_vlan_pcp = tt;
  dl_type = tt;
  nw_tos = tt;
  nw_proto = tt;
  nw_src = tt;
  nw_dst = tt;
  tp_src = tt;
  tp_dst = tt;
}

fine-everything : IsFine everything
fine-everything = record { ranged = ranged-everything; normal = normal-everything }

pub fine-at : (port : ℕ) → IsFine (at_port port)
fine-at port = record { ranged = ranged-everything; normal = normal-at_port port }

-- rewrites ----------------------------------------------------------------------------------------------------------

-- the values of a rewrite fit the types of their fields
pub record SetsFit (r : RewriteOf) : Type 0 where
  pub dl_src : IfSome r.dl_src (λ v. v < 2 ^ 64)
  pub dl_dst : IfSome r.dl_dst (λ v. v < 2 ^ 64)
  pub nw_src : IfSome r.nw_src (λ v. v < 2 ^ 32)
  pub nw_dst : IfSome r.nw_dst (λ v. v < 2 ^ 32)
  pub nw_tos : IfSome r.nw_tos (λ v. v < 2 ^ 8)
  pub tp_src : IfSome r.tp_src (λ v. v < 2 ^ 16)
  pub tp_dst : IfSome r.tp_dst (λ v. v < 2 ^ 16)

pub then-fit : (r s : RewriteOf) → SetsFit r → SetsFit s → SetsFit (and_then r s)
then-fit r s f g = record {
  dl_src = either-fits (λ v. v < 2 ^ 64) s.dl_src r.dl_src g.dl_src f.dl_src;
  dl_dst = either-fits (λ v. v < 2 ^ 64) s.dl_dst r.dl_dst g.dl_dst f.dl_dst;
  nw_src = either-fits (λ v. v < 2 ^ 32) s.nw_src r.nw_src g.nw_src f.nw_src;
  nw_dst = either-fits (λ v. v < 2 ^ 32) s.nw_dst r.nw_dst g.nw_dst f.nw_dst;
  nw_tos = either-fits (λ v. v < 2 ^ 8) s.nw_tos r.nw_tos g.nw_tos f.nw_tos;
  tp_src = either-fits (λ v. v < 2 ^ 16) s.tp_src r.tp_src g.tp_src f.tp_src;
  tp_dst = either-fits (λ v. v < 2 ^ 16) s.tp_dst r.tp_dst g.tp_dst f.tp_dst;
}

pub nothing-set : SetsFit no_rewrite
nothing-set = record { dl_src = tt; dl_dst = tt; nw_src = tt; nw_dst = tt; nw_tos = tt; tp_src = tt; tp_dst = tt }

abbrev pub OutFits : Out → Type 0
OutFits o = SetsFit o.rewrite

abbrev pub TailFits : Tail → Type 0
TailFits Nothing = Unit {0}
TailFits (Pass r) = SetsFit r
TailFits (Link r port) = SetsFit r

-- what outs and a tail set
abbrev pub EffectsFit : List Out → Tail → Type 0
EffectsFit outs tail = AllByRecursion OutFits outs × TailFits tail

tail-then : (r : RewriteOf) → SetsFit r → (t : Tail) → TailFits t → TailFits (tail_after r t)
tail-then r f Nothing g = tt
tail-then r f (Pass s) g = then-fit r s f g
tail-then r f (Link s port) g = then-fit r s f g

outs-then : (r : RewriteOf) → SetsFit r → (before outs : List Out) → AllByRecursion OutFits before
    → AllByRecursion OutFits outs → AllByRecursion OutFits (before ++ map (out_after r) outs)
outs-then r f before outs p g =
    all-append OutFits before (map (out_after r) outs) p
    (all-mapped OutFits OutFits (out_after r) outs (λ o q. then-fit r o.rewrite f q) g)

-- rules -------------------------------------------------------------------------------------------------------------

abbrev pub RuleFits : Rule → Type 0
RuleFits r = IsFine r.m × EffectsFit r.outs r.tail

abbrev AreFit : List Rule → Type 0
AreFit rules = AllByRecursion RuleFits rules

abbrev pub LeafFits : LeafEntry → Type 0
LeafFits e = IsFine e.m × EffectsFit e.effects.outs e.effects.tail

-- the entries of a member's table, and the boxes of its region
pub record TableFits (t : LeafTable) : Type 0 where
  pub entries : AllByRecursion LeafFits t.entries
  pub region : AllByRecursion IsFine t.region

narrowed-fit : (a : Rule) (m : MatchOf) (y : Rule) → rule_met a m ≡ Some y → IsFine m → RuleFits a → RuleFits y
narrowed-fit a m y e f p =
    let s = some_met (narrowed a) a.m m y e in
    subst (λ (z : Rule). RuleFits z) s.1 (fine-both a.m m s.0 p.0 f, p.1)

module _ (ports : List ℕ) (t : LeafTable) (good : TableFits t) where
  cut-fine : (box : MatchOf) → IsFine box → AllByRecursion IsFine (cut t.visible box)
  cut-fine box f =
      all-filter_map (λ (p : ℕ). Unit {0}) IsFine (λ p. meet box (at_port p)) t.visible
      (λ p y e _. let s = some_meet box (at_port p) y e in
      subst IsFine s.1 (fine-both box (at_port p) s.0 f (fine-at p)))
      (all-each (λ (p : ℕ). Unit {0}) t.visible (λ p. tt))

  cells-by : (b : Bool) → AllByRecursion IsFine (if b then flat_map (cut t.visible) t.region else t.region)
  cells-by true = all-flat_map IsFine IsFine (cut t.visible) t.region cut-fine good.region
  cells-by false = good.region

  placed-fit : (a : Rule) → RuleFits a → AreFit (in_cells (cells ports t) a)
  placed-fit a w =
      all-filter_map IsFine RuleFits (rule_met a) (cells ports t) (λ m c e f. narrowed-fit a m c e f w)
      (cells-by (hides ports t))

  miss-fit : (b : Bool) → t.misses ≡ b → AllByRecursion OutFits (miss_rule t).outs
  miss-fit true e = rw e (nothing-set, tt)
  miss-fit false e = rw e tt

  outer-fit : (b : Bool) → AreFit (if b then outside_rule t ∷ [] else [])
  outer-fit true = ((fine-everything, (tt, tt)), tt)
  outer-fit false = tt

  table-fit : AreFit (leaf_rules ports t)
  table-fit =
      let miss : RuleFits (miss_rule t) = (fine-everything, (miss-fit t.misses refl, tt)) in
      all-append RuleFits (if has_outside ports t then outside_rule t ∷ [] else [])
      (flat_map (in_cells (cells ports t)) (miss_rule t ∷ map (entry_rule t) t.entries))
      (outer-fit (has_outside ports t))
      (all-flat_map RuleFits RuleFits (in_cells (cells ports t)) (miss_rule t ∷ map (entry_rule t) t.entries) placed-fit
      (miss, all-mapped LeafFits RuleFits (entry_rule t) t.entries (λ e w. w) good.entries))

found-fit : (tables : List LeafTable) → AllByRecursion TableFits tables → (i : ℕ) (t : LeafTable)
    → slice_get tables i ≡ Some t → TableFits t
found-fit [] a i t e = cc
found-fit (x ∷ xs) a zero t e = subst TableFits (some_injective e) a.0
found-fit (x ∷ xs) a (suc i) t e = found-fit xs a.1 i t e

member-fit : (ports : List ℕ) (o : Option LeafTable) → ((t : LeafTable) → o ≡ Some t → TableFits t)
    → AreFit (table_rules ports o)
member-fit ports None f = tt
member-fit ports (Some t) f = table-fit ports t (f t refl)

-- the rules of an expression
module _ (sizes : ℕ → ℕ) (rules : ℕ → List Rule) (each : (i : ℕ) → AreFit (rules i)) where
  rules-fit : (e : Policy) → AreFit (rules_of sizes rules e)
  rules-fit (member i) = each i
  rules-fit (parallel a b) =
      each-sum RuleFits RuleFits RuleFits
      (λ x y p q o. (fine-both x.m y.m o p.0 q.0, (all-append OutFits x.outs y.outs p.1.0 q.1.0, q.1.1)))
      (rules_of sizes rules a) (rules_of sizes rules b) (rules-fit a) (rules-fit b)
  rules-fit (sequential a b) =
      each-chain RuleFits RuleFits RuleFits (size_of sizes b) (λ x p. p)
      (λ x y r t p q o. let f : SetsFit r = subst TailFits t p.1.1 in (
        fine-both x.m (pulled r y.m) o p.0 (fine-pulled r y.m q.0),
        (outs-then r f x.outs y.outs p.1.0 q.1.0, tail-then r f y.tail q.1.1),
      ))
      (rules_of sizes rules a) (rules_of sizes rules b) (rules-fit a) (rules-fit b)
  rules-fit (override a b) =
      each-shift RuleFits RuleFits RuleFits (size_of sizes b) (λ x p. p) (rules_of sizes rules a)
      (rules_of sizes rules b) (rules-fit a) (rules-fit b)

-- and of that of a virtual switch
pub switch-fit : (tables : List LeafTable) → AllByRecursion TableFits tables → (o : Option SwitchOf)
    → AreFit (switch_rules tables o)
switch-fit tables good None = tt
switch-fit tables good (Some s) =
    rules-fit (λ i. table_size (slice_get tables i)) (λ i. table_rules (ports_of s) (slice_get tables i))
    (λ i. member-fit (ports_of s) (slice_get tables i) (λ t f. found-fit tables good i t f)) s.expr

-- nodes -------------------------------------------------------------------------------------------------------------

out-kept : (b : Bool) (o y : Out) → OutFits o → (if b then None else Some o) ≡ Some y → OutFits y
out-kept true o y p e = cc
out-kept false o y p e = subst (λ (z : Out). OutFits z) (some_injective e) p

out-fits : (v port : ℕ) (r : RewriteOf) (d : Dest) (y : Out) → SetsFit r → out_at v port r d ≡ Some y → OutFits y
out-fits v port r (Port w p) y f e =
    out-kept ((w == v) && (p == port)) (record { rewrite = r; dest = Port w p }) y f e
out-fits v port r (Flood w p) y f e =
    out-kept ((w == v) && (p == port)) (record { rewrite = r; dest = Flood w p }) y f e
out-fits v port r Ingress y f e = subst (λ (z : Out). OutFits z) (some_injective e) f
out-fits v port r (Tell who reason) y f e = subst (λ (z : Out). OutFits z) (some_injective e) f

here-fit : (v port : ℕ) (outs : List Out) → AllByRecursion OutFits outs → AllByRecursion OutFits (outs_at v port outs)
here-fit v port outs g =
    all-filter_map OutFits OutFits (λ (o : Out). out_at v port o.rewrite o.dest) outs
    (λ x y e f. out-fits v port x.rewrite x.dest y f e) g

module _ (f : Fabric) (rules : (v : ℕ) → AreFit (f.rules v)) where
  linked-fit : (v port size : ℕ) (r : RewriteOf) (x b y : Rule) → SetsFit r → RuleFits x → RuleFits b
      → hop_rule size r (at_node v port x) b ≡ Some y → RuleFits y
  linked-fit v port size r x b y g p q e =
      let a = at_node v port x in
      let n = without_port b.m in
      let s : (can_pull r n ≡ true) × (overlaps a.m (pulled r n) ≡ true) × (link_of size r a b ≡ y) =
      some_pulled (hopped size r a b) a.m n r y e in
      subst (λ (z : Rule). RuleFits z) s.2 (
        fine-both a.m (pulled r n) s.1 p.0 (fine-pulled r n (fine-without b.m q.0)),
        (outs-then r g a.outs b.outs (here-fit v port x.outs p.1.0) q.1.0, tt),
      )

  made-fit : (m v port size : ℕ) → ((u port : ℕ) → AreFit (node f m u port)) → (x : Rule) → RuleFits x
      → (o : Option Onward) → leads x.tail (f.links v) port ≡ o → AreFit (hops_on o (node f m) size (at_node v port x))
  made-fit m v port size before x p None e = ((p.0, (here-fit v port x.outs p.1.0, tt)), tt)
  made-fit m v port size before x p (Some on) e =
      let l = leading x.tail (f.links v) port on e in
      let g : SetsFit on.rewrite = subst TailFits l.tail p.1.1 in
      all-filter_map RuleFits RuleFits (hop_rule size on.rewrite (at_node v port x))
      (node f m on.place.v on.place.port)
      (λ b y u q. linked-fit v port size on.rewrite x b y g p q u) (before on.place.v on.place.port)

  node-fit : (m v port : ℕ) → AreFit (node f m v port)
  node-fit zero v port = ((fine-everything, (tt, tt)), tt)
  node-fit (suc m) v port =
      let size = peers_size (hop_size f m) (f.links v) in
      all-flat_map RuleFits RuleFits
      (λ (a : Rule). hops_on (leads a.tail (f.links v) port) (node f m) size (at_node v port a))
      (filter_map (λ a. rule_met a (at_port port)) (f.rules v))
      (λ x w. made-fit m v port size (node-fit m) x w (leads x.tail (f.links v) port) refl)
      (all-filter_map RuleFits RuleFits (λ a. rule_met a (at_port port)) (f.rules v)
      (λ x y e w. narrowed-fit x (at_port port) y e (fine-at port) w) (rules v))

-- the rules of a node of a network
pub nodes-fit : (net : Network) → AllByRecursion TableFits net.tables → (hops v port : ℕ)
    → AreFit (node (fabric_of net) hops v port)
nodes-fit net good hops v port =
    node-fit (fabric_of net) (λ u. switch-fit net.tables good (slice_get net.switches u)) hops v port
