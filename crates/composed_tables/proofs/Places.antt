-- The links of a setting's topology lead to virtual switches that aren't whole, and such have the ports with rules of
-- their own.
use Rattle.std.proofs.Common.{◌≡◌, ℕ, zero, suc, ◌<◌, ◌≤◌, Bool, true, false, cond, not, List, [], ◌∷◌, Option, Some}
use Rattle.std.proofs.Common.{None, length, map, refl, sym, ap, subst, ◌∙◌, arith}
use Rattle.std.specs.Prelude.{filter, filter_map, option_map, slice_get, slice_index_or}
use Rattle.std.specs.List.{AllByRecursion, enumerate_from}
use Rattle.std.specs.Option.{option_and_then, option_map_or}
use Rattle.std.proofs.lemmas.Option.{slice_get_within}
use Rattle.agreement.specs.declared.state.Setting.{Setting}
use Rattle.agreement.proofs.Alone.{all-numbered}
use Rattle.hop_rules.specs.Links.{ends, link_of, links, place, port_ends}
use Rattle.hop_rules.specs.Tables.{TableOf, own_ports}
use Rattle.hop_rules.specs.declared.exits.LinkEnd.{LinkEnd}
use Rattle.policy_meaning.specs.Switches.{SwitchOf}
use Rattle.policy_meaning.specs.declared.network.Network.{Network}
use Rattle.policy_meaning.specs.declared.network.Place.{Place}
use Rattle.policy_meaning.proofs.Lists.{all-each, all-filter_map, all-flat_map, all-mapped}
use Rattle.switch_meaning.proofs.Items.{some_injective}
use Rattle.virtual_topology.specs.Rows.{Row, Spot, rows, where_is}
use Rattle.virtual_topology.specs.Wires.{Joint, item_joints, outside_joints, outside_row}
use Rattle.virtual_topology.specs.declared.plan.TopologyPlan.{TopologyPlan}
use Rattle.virtual_topology.specs.declared.plan.VirtualItem.{VirtualItem}
use Rattle.virtual_topology.specs.declared.plan.VirtualPort.{VirtualPort}
use Rattle.virtual_topology.specs.declared.uses.Role.TheVariants.{Physical}
use Rattle.composed_tables.specs.Rules.{IsLaidOut, LeadsToParted}
use Rattle.composed_tables.specs.Steps.{own_places, whole_in}
use Rattle.composed_tables.proofs.Kept.{There, within}

-- a virtual switch that isn't all of its physical switch
abbrev pub PartedIn : List SwitchOf → ℕ → Type 0
PartedIn switches v = (x : SwitchOf) × (slice_get switches v ≡ Some x) × (x.whole ≡ false)

-- ---- where links lead
unmapped : {A B : Type 0} (P : B → Type 0) (f : A → B) (xs : List A) → AllByRecursion P (map f xs)
    → AllByRecursion (λ x. P (f x)) xs
unmapped P f [] a = tt
unmapped P f (x ∷ xs) a = (a.0, unmapped P f xs a.1)

parted-by : (net : Network) (xs : List LinkEnd) → AllByRecursion (λ (e : LinkEnd). LeadsToParted net (link_of e)) xs
    → AllByRecursion (λ (e : LinkEnd). PartedIn net.switches e.peer.v) xs
parted-by net [] a = tt
parted-by net (e ∷ es) a = ((a.0.to, a.0.there, a.0.parted), parted-by net es a.1)

links-at : (plan : TopologyPlan) (i : ℕ × VirtualItem) → slice_get plan.virtuals i.0 ≡ Some i.1
    → links plan i.0 ≡ map link_of (port_ends plan i)
links-at plan i at = ap (λ (o : Option VirtualItem). option_map_or (λ x. map link_of (port_ends plan (i.0, x))) o []) at

pub ends-parted : (plan : TopologyPlan) (net : Network) → ((v : ℕ) → AllByRecursion (LeadsToParted net) (links plan v))
    → AllByRecursion (λ (e : LinkEnd). PartedIn net.switches e.peer.v) (ends plan)
ends-parted plan net leads =
    all-flat_map (λ (i : ℕ × VirtualItem). slice_get plan.virtuals i.0 ≡ Some i.1)
    (λ (e : LinkEnd). PartedIn net.switches e.peer.v) (port_ends plan) (enumerate_from 0 plan.virtuals)
    (λ i at. parted-by net (port_ends plan i)
    (unmapped (LeadsToParted net) link_of (port_ends plan i)
    (subst (AllByRecursion (LeadsToParted net)) (links-at plan i at) (leads i.0))))
    (all-numbered plan.virtuals)

-- ---- outside ports
joint-at : (v port : ℕ) (o : Option Spot) (j : Joint) → option_map (λ (s : Spot). ((v, port), s)) o ≡ Some j → v ≡ j.0.0
joint-at v port None j e = cc
joint-at v port (Some s) j e = ap (λ (z : Joint). z.0.0) (some_injective e)

joints-at : (rs : List Row) (v : ℕ) (count : ℕ) → v < count → (ports : List VirtualPort)
    → AllByRecursion (λ (j : Joint). j.0.0 < count) (filter_map (outside_row rs v) ports)
joints-at rs v count lt ports =
    all-filter_map (λ (q : VirtualPort). v < count) (λ (j : Joint). j.0.0 < count) (outside_row rs v) ports
    (λ q j is h. subst (λ (n : ℕ). n < count) (joint-at v q.port (option_and_then (where_is rs Physical) q.at) j is) h)
    (all-each (λ (q : VirtualPort). v < count) ports (λ q. lt))

joints-within : (plan : TopologyPlan)
    → AllByRecursion (λ (j : Joint). j.0.0 < length plan.virtuals) (outside_joints plan)
joints-within plan =
    all-flat_map (λ (i : ℕ × VirtualItem). slice_get plan.virtuals i.0 ≡ Some i.1)
    (λ (j : Joint). j.0.0 < length plan.virtuals) (item_joints (rows plan)) (enumerate_from 0 plan.virtuals)
    (λ i at. joints-at (rows plan) i.0 (length plan.virtuals) (slice_get_within plan.virtuals i.0 i.1 at) i.1.ports)
    (all-numbered plan.virtuals)

-- what is left of a list has passed the test
module _ {A : Type 0} (P Q : A → Type 0) (test : A → Bool) (up : (x : A) → P x → test x ≡ true → Q x) where
  passed-one : (x : A) (xs : List A) (b : Bool) → (b ≡ true → Q x) → AllByRecursion Q xs
      → AllByRecursion Q (cond b (x ∷ xs) xs)
  passed-one x xs true h a = (h refl, a)
  passed-one x xs false h a = a

  passed : (xs : List A) → AllByRecursion P xs → AllByRecursion Q (filter test xs)
  passed [] a = tt
  passed (x ∷ xs) a = passed-one x (filter test xs) (test x) (λ e. up x a.0 e) (passed xs a.1)

not-true : (b : Bool) → not b ≡ true → b ≡ false
not-true true e = cc
not-true false e = refl

place-parted : (s : Setting) (p : Place) → p.v < length s.network.switches → not (whole_in s p.v) ≡ true
    → PartedIn s.network.switches p.v
place-parted s p lt e =
    let x : There s.network.switches p.v = within s.network.switches p.v lt in
    let same : whole_in s p.v ≡ x.item.whole =
    ap (λ (o : Option SwitchOf). option_map_or (λ (y : SwitchOf). y.whole) o false) x.is in
    (x.item, x.is, sym same ∙ not-true (whole_in s p.v) e)

pub places-parted : (plan : TopologyPlan) (s : Setting) → length plan.virtuals ≡ length s.network.switches
    → AllByRecursion (λ (p : Place). PartedIn s.network.switches p.v) (own_places plan s)
places-parted plan s count =
    passed (λ (p : Place). p.v < length s.network.switches) (λ (p : Place). PartedIn s.network.switches p.v)
    (λ (p : Place). not (whole_in s p.v)) (place-parted s)
    (map (λ (j : Joint). place j.0) (outside_joints plan))
    (all-mapped (λ (j : Joint). j.0.0 < length plan.virtuals) (λ (p : Place). p.v < length s.network.switches)
    (λ (j : Joint). place j.0) (outside_joints plan)
    (λ j lt. subst (λ (n : ℕ). j.0.0 < n) count lt) (joints-within plan))

-- ---- of a table of hops
past-whole : (whole : List Bool) (switches : List SwitchOf) → length whole ≡ length switches → (v : ℕ)
    → ((x : SwitchOf) → slice_get switches v ≡ Some x → slice_index_or whole v false ≡ x.whole)
    → slice_index_or whole v false ≡ option_map_or (λ (x : SwitchOf). x.whole) (slice_get switches v) false
past-whole whole switches long v each = by (slice_get switches v) refl
  where
    outside : (ws : List Bool) (n : ℕ) → length ws ≤ n → slice_index_or ws n false ≡ false
    outside [] n le = refl
    outside (w ∷ ws) zero le = absurd (omega arith)
    outside (w ∷ ws) (suc n) le = outside ws n (omega arith)

    past : (xs : List SwitchOf) (n : ℕ) → slice_get xs n ≡ None → length xs ≤ n
    past [] n e = omega arith
    past (x ∷ xs) zero e = cc
    past (x ∷ xs) (suc n) e = let le = past xs n e in omega arith

    by : (o : Option SwitchOf) → slice_get switches v ≡ o
        → slice_index_or whole v false ≡ option_map_or (λ (x : SwitchOf). x.whole) o false
    by (Some x) e = each x e
    by None e = outside whole v (let le = past switches v e in omega (arith, le, long))

pub ports-same : (s : Setting) (t : TableOf) → IsLaidOut s t → length t.whole ≡ length s.network.switches
    → own_ports t ≡ own_places t.plan s
ports-same s t l long = λ i.
    filter (λ (p : Place). not (past-whole t.whole s.network.switches long p.v (l.whole p.v) i))
    (map (λ (j : Joint). place j.0) (outside_joints t.plan))
