-- Packets of a virtual switch leave at ports of it, and of virtual switches to which links lead.
use Rattle.std.proofs.Common.{◌≡◌, ℕ, zero, suc, Bool, true, false, ◌&&◌, List, Option, Some, None, refl, subst}
use Rattle.std.specs.Prelude.{IfSome, if◌then◌else◌, map, slice_get, ◌==◌}
use Rattle.std.specs.List.{AllByRecursion}
use Rattle.of10_match.specs.Fields.{HeaderOf}
use Rattle.of10_match.specs.Matching.{holds}
use Rattle.of10_actions.specs.Fields.{RewriteOf}
use Rattle.of10_actions.specs.Rewriting.{and_then, apply}
use Rattle.of10_actions.specs.declared.effects.Dest.{Dest}
use Rattle.of10_actions.specs.declared.effects.Dest.TheVariants.{Port, Flood, Ingress, Tell}
use Rattle.of10_actions.specs.declared.effects.Out.{Out}
use Rattle.of10_actions.specs.declared.effects.Tail.{Tail}
use Rattle.of10_actions.specs.declared.effects.Tail.TheVariants.{Nothing, Pass, Link}
use Rattle.policy_expr.specs.Policy.{Policy, member, parallel, sequential, override}
use Rattle.policy_meaning.specs.CentralFact.{EachMember}
use Rattle.policy_meaning.specs.Hops.{leads}
use Rattle.policy_meaning.specs.Leaf.{best_entry, by_entry, is_inside, miss_outs, outside}
use Rattle.policy_meaning.specs.Meaning.{evaluate, out_after, passed_on}
use Rattle.policy_meaning.specs.Networks.{ground_of, switch_links, switch_meaning, switch_spread, table_meaning}
use Rattle.policy_meaning.specs.Walk.{arriving, here, nowhere, port_out, takes, walk, what_follows}
use Rattle.policy_meaning.specs.declared.leaf.LeafEntry.{LeafEntry}
use Rattle.policy_meaning.specs.declared.leaf.LeafTable.{LeafTable}
use Rattle.policy_meaning.specs.declared.meaning.Meaning.{Meaning}
use Rattle.policy_meaning.specs.declared.network.Link as Link
use Rattle.policy_meaning.specs.declared.network.Network.{Network}
use Rattle.policy_meaning.specs.declared.network.Onward.{Onward}
use Rattle.policy_meaning.specs.declared.network.VirtualSwitch.{VirtualSwitch}
use Rattle.policy_meaning.specs.declared.walking.PortOut.{PortOut}
use Rattle.policy_meaning.specs.declared.walking.Walked.{Walked}
use Rattle.policy_meaning.proofs.Booleans.{some_injective}
use Rattle.policy_meaning.proofs.Highest.{highest-each}
use Rattle.policy_meaning.proofs.Lists.{all-append, all-filter_map, all-mapped}
use Rattle.policy_meaning.proofs.Peers.{leading}
use Rattle.agreement.specs.Premises.{GoesWithin, TableGoesWithin}
use Rattle.agreement.specs.Reach.{LeadsTo, at_once, over}

-- all outs go to ports of this virtual switch
abbrev pub OutsWithin : ℕ → List Out → Type 0
OutsWithin v outs = AllByRecursion (λ (o : Out). GoesWithin v o.dest) outs

-- what holds of each entry holds of the best
best-of : (P : LeafEntry → Type 0) (es : List LeafEntry) (h : HeaderOf) → AllByRecursion P es
    → IfSome (best_entry es h) P
best-of P es h = highest-each P (λ (e : LeafEntry). holds e.m h) (λ (e : LeafEntry). e.rank) es

module _ (v : ℕ) where
  miss-within : (t : LeafTable) (b : Bool) → t.misses ≡ b → OutsWithin v (miss_outs t)
  miss-within t true e = rw e (tt, tt)
  miss-within t false e = rw e tt

  entry-within : (t : LeafTable) (o : Option LeafEntry) → IfSome o (λ (e : LeafEntry). OutsWithin v e.effects.outs)
      → OutsWithin v (by_entry t o).outs
  entry-within t None p = miss-within t t.misses refl
  entry-within t (Some e) p = p

  leaf-within : (b : Bool) (m : Meaning) → OutsWithin v m.outs → OutsWithin v (if b then m else outside).outs
  leaf-within true m p = p
  leaf-within false m p = tt

  table-within : (o : Option LeafTable) → TableGoesWithin v o → (h : HeaderOf) → OutsWithin v (table_meaning o h).outs
  table-within None g h = tt
  table-within (Some t) g h =
      leaf-within (is_inside t h) (by_entry t (best_entry t.entries h))
      (entry-within t (best_entry t.entries h)
      (best-of (λ (e : LeafEntry). OutsWithin v e.effects.outs) t.entries h g))

  after-within : (r : RewriteOf) (outs : List Out) → OutsWithin v outs → OutsWithin v (map (out_after r) outs)
  after-within r outs g = all-mapped (λ (o : Out). GoesWithin v o.dest) (λ (o : Out). GoesWithin v o.dest) (out_after r)
      outs (λ x n. n) g

  passed-within : (t : Tail) (a : Meaning) (b : RewriteOf → Meaning) → OutsWithin v a.outs
      → ((r : RewriteOf) → OutsWithin v (b r).outs) → OutsWithin v (passed_on t a b).outs
  passed-within Nothing a b p q = p
  passed-within (Link r port) a b p q = p
  passed-within (Pass r) a b p q = all-append (λ (o : Out). GoesWithin v o.dest) a.outs (map (out_after r) (b r).outs) p
      (after-within r (b r).outs (q r))

  either-within : (b : Bool) (xs ys : List Out) → OutsWithin v xs → OutsWithin v ys
      → OutsWithin v (if b then xs else ys)
  either-within true xs ys p q = p
  either-within false xs ys p q = q

  module _ (leaf : ℕ → HeaderOf → Meaning) (P : ℕ → Type 0) (good : (i : ℕ) → P i → (h : HeaderOf)
      → OutsWithin v (leaf i h).outs) where
    evaluate-within : (e : Policy) → EachMember P e → (h : HeaderOf) → OutsWithin v (evaluate leaf e h).outs
    evaluate-within (member i) p h = good i p h
    evaluate-within (parallel a b) p h = all-append (λ (o : Out). GoesWithin v o.dest) (evaluate leaf a h).outs
        (evaluate leaf b h).outs (evaluate-within a p.0 h) (evaluate-within b p.1 h)
    evaluate-within (sequential a b) p h =
        passed-within (evaluate leaf a h).tail (evaluate leaf a h) (λ r. evaluate leaf b (apply r h))
        (evaluate-within a p.0 h) (λ r. evaluate-within b p.1 (apply r h))
    evaluate-within (override a b) p h = either-within (evaluate leaf a h).touched (evaluate leaf a h).outs
        (evaluate leaf b h).outs (evaluate-within a p.0 h) (evaluate-within b p.1 h)

  -- the members of a virtual switch send packets to its ports alone
  abbrev pub IsWithin : List LeafTable → VirtualSwitch → Type 0
  IsWithin tables x = EachMember (λ i. TableGoesWithin v (slice_get tables i)) x.expr

  pub switch-within : (tables : List LeafTable) (o : Option VirtualSwitch)
      → ((x : VirtualSwitch) → o ≡ Some x → IsWithin tables x) → (h : HeaderOf)
      → OutsWithin v (switch_meaning tables o h).outs
  switch-within tables None g h = tt
  switch-within tables (Some x) g h =
      evaluate-within (λ i. table_meaning (slice_get tables i)) (λ i. TableGoesWithin v (slice_get tables i))
      (λ i p k. table-within (slice_get tables i) p k) x.expr (g x refl) h

module _ (net : Network) (good : (v : ℕ) (x : VirtualSwitch) → slice_get net.switches v ≡ Some x
    → IsWithin v net.tables x) where
  -- the packet leaves where links lead
  abbrev pub LeavesAt : ℕ → PortOut → Type 0
  LeavesAt v o = LeadsTo net v o.v

  at-port : (v w : ℕ) (b : Bool) (o y : PortOut) → o.v ≡ w → w ≡ v → (if b then None else Some o) ≡ Some y
      → LeavesAt v y
  at-port v w true o y e f g = cc
  at-port v w false o y e f g =
      subst (λ (z : PortOut). LeavesAt v z) (some_injective g)
      (subst (λ (u : ℕ). LeadsTo net v u) (let s : v ≡ o.v = cc in s) at_once)

  out-leaves : (v port : ℕ) (r : RewriteOf) (d : Dest) (y : PortOut) → GoesWithin v d → port_out v port r d ≡ Some y
      → LeavesAt v y
  out-leaves v port r (Port w p) y g e = at-port v w ((w == v) && (p == port)) (record { v = w; port = p; rewrite = r })
      y refl g e
  out-leaves v port r (Flood w p) y g e = at-port v w ((w == v) && (p == port))
      (record { v = w; port = p; rewrite = r }) y refl g e
  out-leaves v port r Ingress y g e = subst (λ (z : PortOut). LeavesAt v z) (some_injective e) at_once
  out-leaves v port r (Tell who reason) y g e = cc

  abbrev means : ℕ → HeaderOf → Meaning
  means v h = switch_meaning net.tables (slice_get net.switches v) h

  abbrev links : ℕ → List Link.Link
  links v = switch_links (slice_get net.switches v)

  here-leaves : (v : ℕ) (h : HeaderOf) → AllByRecursion (LeavesAt v) (here v h.in_port (means v h).outs).outs
  here-leaves v h =
      all-filter_map (λ (o : Out). GoesWithin v o.dest) (LeavesAt v)
      (λ (o : Out). port_out v h.in_port o.rewrite o.dest) (means v h).outs
      (λ x y e g. out-leaves v h.in_port x.rewrite x.dest y g e)
      (switch-within v net.tables (slice_get net.switches v) (good v) h)

  follows-leave : (v : ℕ) (h : HeaderOf) (t : Tail) (there : ℕ → HeaderOf → Walked)
      → ((u : ℕ) (k : HeaderOf) → AllByRecursion (LeavesAt u) (there u k).outs) → (o : Option Onward)
      → leads t (links v) h.in_port ≡ o → AllByRecursion (LeavesAt v) (what_follows o there h).outs
  follows-leave v h t there before None e = tt
  follows-leave v h t there before (Some on) e =
      let l = leading t (links v) h.in_port on e in
      let k = arriving on.rewrite on.place.port h in
      all-mapped (LeavesAt on.place.v) (LeavesAt v)
      (λ (o : PortOut). record o { rewrite = and_then on.rewrite o.rewrite }) (there on.place.v k).outs
      (λ x g. over l.by on.place l.peer g) (before on.place.v k)

  taken-leaves : (v : ℕ) (b : Bool) (w : Walked) → AllByRecursion (LeavesAt v) w.outs
      → AllByRecursion (LeavesAt v) (if b then w else nowhere).outs
  taken-leaves v true w a = a
  taken-leaves v false w a = tt

  -- each packet of a walk leaves where links lead
  pub walk-leaves : (n v : ℕ) (h : HeaderOf) → AllByRecursion (LeavesAt v) (walk (ground_of net) n v h).outs
  walk-leaves zero v h = tt
  walk-leaves (suc n) v h =
      let on = leads (means v h).tail (links v) h.in_port in
      taken-leaves v (takes (switch_spread (slice_get net.switches v)) h) _
      (all-append (LeavesAt v) (here v h.in_port (means v h).outs).outs
      (what_follows on (walk (ground_of net) n) h).outs (here-leaves v h)
      (follows-leave v h (means v h).tail (walk (ground_of net) n) (λ u k. walk-leaves n u k) on refl))
