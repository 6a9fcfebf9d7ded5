-- On which switches the outside ports of virtual switches lie.
use Rattle.std.proofs.Common.{◌≡◌, ◌∙◌, sym, ap, subst, ℕ, zero, suc, ◌+◌, ◌==◌, ◌&&◌, ◌||◌, not, Bool, true, false}
use Rattle.std.proofs.Common.{cond, List, [], ◌∷◌, ◌++◌, Option, Some, None, map, inl, inr, arith, refl}
use Rattle.std.specs.Prelude.{slice_get, flat_map, filter_map, filter, find, is_some, is_none, if◌then◌else◌}
use Rattle.std.specs.List.{AllByRecursion, cons_option, enumerate_from, list_any}
use Rattle.std.specs.Option.{option_map, option_map_or, option_and_then}
use Rattle.std.proofs.lemmas.Bool.{eqb-true, eq-eqb, cases_eq}
use Rattle.agreement.proofs.Cables.{found-there}
use Rattle.agreement.specs.Reach.{LeadsTo, at_once, over}
use Rattle.policy_expr.specs.Policy.{Policy}
use Rattle.policy_meaning.proofs.Booleans.{split_and, join_and, fails, some_injective, not_false, split_or, or_right}
use Rattle.policy_meaning.specs.Hops.{peer_of as peer_in}
use Rattle.policy_meaning.specs.Leaf.{has_port}
use Rattle.policy_meaning.specs.Networks.{ports_of, switch_has, switch_links, switch_spread}
use Rattle.policy_meaning.specs.Switches.{SwitchOf}
use Rattle.policy_meaning.specs.declared.leaf.LeafTable.{LeafTable}
use Rattle.policy_meaning.specs.declared.network.Link.{Link}
use Rattle.policy_meaning.specs.declared.network.Network.{Network}
use Rattle.policy_meaning.specs.declared.network.Place.{Place}
use Rattle.switch_meaning.specs.Wirings.{outside_at}
use Rattle.switch_meaning.specs.declared.wiring.Outside.{Outside}
use Rattle.virtual_topology.specs.declared.fault.TopologyFault.{TopologyFault}
use Rattle.virtual_topology.specs.declared.plan.PortPlace.{PortPlace}
use Rattle.virtual_topology.specs.declared.plan.TopologyPlan.{TopologyPlan}
use Rattle.virtual_topology.specs.declared.plan.VirtualItem.{VirtualItem}
use Rattle.virtual_topology.specs.declared.plan.VirtualPort.{VirtualPort}
use Rattle.virtual_topology.specs.declared.uses.Role.TheVariants as roles
use Rattle.virtual_topology.specs.Faults.{are_joined, ends_at, is_mixed, mixed_item}
use Rattle.virtual_topology.specs.Rows.{Spot, Row, rows, where_is}
use Rattle.virtual_topology.specs.Wires.{Joint, item_joints, outside_row, outside_joints, link_joints, peer_of}
use Rattle.virtual_topology.specs.Wires.{lie_apart, lies_off, is_spread_of}
use Rattle.policy_setting.specs.Networks.{link, place, virtual_switch}
use Rattle.policy_setting.specs.Premises.{HaveNumbers}
use Rattle.policy_setting.specs.Settings.{expr_at, holds_at, switches}
use Rattle.policy_setting.specs.Wirings.{outside, wiring}
use Rattle.policy_setting.proofs.Parts.{all_first, all_second, all_weaker, all_of_two, all_joined, all_numbered}
use Rattle.policy_setting.proofs.Parts.{mapped_all, numbered}
use Rattle.policy_setting.proofs.Apart.{Faultless}
use Rattle.policy_setting.proofs.Joints.{IsOutside, outside_are, all_filtered}
use Rattle.policy_setting.proofs.Spots.{has_link}
use Rattle.policy_setting.proofs.Linked.{group, group_joined, IsWay, way_is, link_peer}
use Rattle.policy_setting.proofs.Placing.{found_is, switch_at}

-- outside ports that lie on one physical switch
pub record OnOne (js : List Joint) : Type 0 where
  pub switch : ℕ
  pub all : AllByRecursion (λ (j : Joint). j.1.0 ≡ switch) js

none_off : (s : ℕ) (js : List Joint) → list_any (lies_off s) js ≡ false → AllByRecursion (λ (j : Joint). j.1.0 ≡ s) js
none_off s [] e = tt
none_off s (j ∷ js) e =
    let h = split_or (not (j.1.0 == s)) (list_any (lies_off s) js) e in
    (eqb-true j.1.0 s (not_false (j.1.0 == s) h.0), none_off s js h.1)

pub together_on : (js : List Joint) → lie_apart js ≡ false → OnOne js
together_on [] e = record { switch = 0; all = tt }
together_on (j ∷ js) e = record { switch = j.1.0; all = none_off j.1.0 (j ∷ js) e }

not_true : (b : Bool) → b ≡ true → not b ≡ false
not_true true e = refl
not_true false e = absurd (cc)

none_lies : (s : ℕ) (js : List Joint) → AllByRecursion (λ (j : Joint). j.1.0 ≡ s) js → list_any (lies_off s) js ≡ false
none_lies s [] h = refl
none_lies s (j ∷ js) h = rw (not_true (j.1.0 == s) (eq-eqb j.1.0 s h.0)) (none_lies s js h.1)

pub on_together : (s : ℕ) (js : List Joint) → AllByRecursion (λ (j : Joint). j.1.0 ≡ s) js → lie_apart js ≡ false
on_together s [] h = refl
on_together s (j ∷ js) h = subst (λ (n : ℕ). list_any (lies_off n) (j ∷ js) ≡ false) (sym h.0) (none_lies s (j ∷ js) h)

-- what holds of the items that pass
kept_next : {A : Type 0} (P : A → Type 0) (t : A → Bool) (x : A) (xs : List A) (b : Bool) → t x ≡ b
    → AllByRecursion P (cond b (x ∷ filter t xs) (filter t xs))
    → (AllByRecursion P (filter t xs) → AllByRecursion (λ x. t x ≡ true → P x) xs)
    → AllByRecursion (λ x. t x ≡ true → P x) (x ∷ xs)
kept_next P t x xs true e h f = ((λ _. h.0), f h.1)
kept_next P t x xs false e h f = ((λ k. absurd (cc)), f h)

pub all_kept : {A : Type 0} (P : A → Type 0) (t : A → Bool) (xs : List A) → AllByRecursion P (filter t xs)
    → AllByRecursion (λ x. t x ≡ true → P x) xs
all_kept P t [] h = tt
all_kept P t (x ∷ xs) h = kept_next P t x xs (t x) refl h (λ k. all_kept P t xs k)

-- the outside ports of a virtual switch are those that have its number
own_spot : (v port : ℕ) (o : Option Spot) (j : Joint) → option_map (λ s. ((v, port), s)) o ≡ Some j → j.0.0 ≡ v
own_spot v port None j e = absurd (cc)
own_spot v port (Some s) j e = let same : ((v, port), s) ≡ j = some_injective e in sym (ap (λ (j : Joint). j.0.0) same)

own_number : (rs : List Row) (v : ℕ) (q : VirtualPort) (j : Joint) → outside_row rs v q ≡ Some j → j.0.0 ≡ v
own_number rs v q j e = own_spot v q.port (option_and_then (where_is rs roles.Physical) q.at) j e

own_numbers : (rs : List Row) (v : ℕ) (qs : List VirtualPort)
    → AllByRecursion (λ (j : Joint). j.0.0 ≡ v) (filter_map (outside_row rs v) qs)
own_numbers rs v qs = all_filtered (outside_row rs v) (λ (j : Joint). j.0.0 ≡ v) (λ q j e. own_number rs v q j e) qs

item_same : (plan : TopologyPlan) (P : Joint → Type 0) (v : ℕ) (x : VirtualItem) → slice_get plan.virtuals v ≡ Some x
    → AllByRecursion P (item_joints (rows plan) (v, x)) → (i : ℕ × VirtualItem) → slice_get plan.virtuals i.0 ≡ Some i.1
    → AllByRecursion (λ (j : Joint). j.0.0 ≡ v → P j) (item_joints (rows plan) i)
item_same plan P v x t h i k = elim (cases_eq i.0 v) [
  | inl e ↦
      let same : (v, x) ≡ i = λ n. (sym e n, some_injective (sym t ∙ (ap (slice_get plan.virtuals) (sym e) ∙ k)) n) in
      subst (λ (z : ℕ × VirtualItem). AllByRecursion (λ (j : Joint). j.0.0 ≡ v → P j) (item_joints (rows plan) z)) same
      (all_weaker P (λ (j : Joint). j.0.0 ≡ v → P j) (λ j p _. p) (item_joints (rows plan) (v, x)) h)
  | inr d ↦ all_weaker (λ (j : Joint). j.0.0 ≡ i.0) (λ (j : Joint). j.0.0 ≡ v
      → P j) (λ j n m. absurd (d (sym n ∙ m))) (item_joints (rows plan) i) (own_numbers (rows plan) i.0 i.1.ports)
]

-- what holds of them holds of all that have its number
pub item_all : (plan : TopologyPlan) (P : Joint → Type 0) (v : ℕ) (x : VirtualItem) → slice_get plan.virtuals v ≡ Some x
    → AllByRecursion P (item_joints (rows plan) (v, x))
    → AllByRecursion (λ (j : Joint). j.0.0 ≡ v → P j) (outside_joints plan)
item_all plan P v x t h = all_joined (item_joints (rows plan)) (λ (j : Joint). j.0.0 ≡ v
    → P j) (enumerate_from 0 plan.virtuals)
    (all_weaker (λ (i : ℕ × VirtualItem). slice_get plan.virtuals i.0 ≡ Some i.1)
    (λ i. AllByRecursion (λ (j : Joint). j.0.0 ≡ v → P j) (item_joints (rows plan) i))
    (λ i k. item_same plan P v x t h i k) (enumerate_from 0 plan.virtuals) (numbered plan.virtuals))

joined_all : {A B : Type 0} (f : A → List B) (P : B → Type 0) (xs : List A) → AllByRecursion P (flat_map f xs)
    → AllByRecursion (λ x. AllByRecursion P (f x)) xs
joined_all f P [] h = tt
joined_all f P (x ∷ xs) h =
    (all_first P (f x) (flat_map f xs) h, joined_all f P xs (all_second P (f x) (flat_map f xs) h))

pub numbered_is : {A : Type 0} (P : ℕ × A → Type 0) (m : ℕ) (xs : List A) (k : ℕ) (x : A) → slice_get xs k ≡ Some x
    → AllByRecursion P (enumerate_from m xs) → P (m + k, x)
numbered_is P m [] k x t h = absurd (cc)
numbered_is P m (y ∷ ys) zero x t h = let p : m ≡ m + 0 = omega arith in subst P (λ i. (p i, some_injective t i)) h.0
numbered_is P m (y ∷ ys) (suc k) x t h = let p : (m + 1) + k ≡ m + suc k = omega arith in
    subst (λ (n : ℕ). P (n, x)) p (numbered_is P (m + 1) ys k x t h.1)

-- what holds of all outside ports holds of those of a virtual switch
pub all_item : (plan : TopologyPlan) (P : Joint → Type 0) (v : ℕ) (x : VirtualItem) → slice_get plan.virtuals v ≡ Some x
    → AllByRecursion P (outside_joints plan) → AllByRecursion P (item_joints (rows plan) (v, x))
all_item plan P v x t h =
    let Q = λ (i : ℕ × VirtualItem). AllByRecursion P (item_joints (rows plan) i) in
    let p : 0 + v ≡ v = omega arith in
    subst (λ (n : ℕ). Q (n, x)) p
    (numbered_is Q 0 plan.virtuals v x t
    (joined_all (item_joints (rows plan)) P (enumerate_from 0 plan.virtuals) h))

-- a virtual switch at the end of a link isn't mixed: the outside ports of all that links join to it lie on one switch
unmixed_is : (b : Bool) (f : TopologyFault) → (if b then Some f else None) ≡ None → b ≡ false
unmixed_is true f e = absurd (cc)
unmixed_is false f e = refl

and_other : (a b : Bool) → a ≡ true → a && b ≡ false → b ≡ false
and_other true b e f = f
and_other false b e f = absurd (cc)

pub linked_on : (plan : TopologyPlan) → Faultless plan → (v : ℕ) (x : VirtualItem) → slice_get plan.virtuals v ≡ Some x
    → list_any (ends_at v) (link_joints plan) ≡ true
    → OnOne (filter (λ (o : Joint). are_joined (link_joints plan) v o.0.0) (outside_joints plan))
linked_on plan f v x t e =
    let p : 0 + v ≡ v = omega arith in
    let none = subst (λ (n : ℕ). mixed_item (link_joints plan) (outside_joints plan) (n, x) ≡ None) p
    (numbered_is (λ (i : ℕ × VirtualItem). mixed_item (link_joints plan) (outside_joints plan) i ≡ None) 0
    plan.virtuals v x t f.unmixed) in
    let group = filter (λ (o : Joint). are_joined (link_joints plan) v o.0.0) (outside_joints plan) in
    together_on group (and_other (list_any (ends_at v) (link_joints plan)) (lie_apart group) e
    (unmixed_is (is_mixed (link_joints plan) (outside_joints plan) v) _ none))

-- all outside ports of the virtual switches that links join to this one lie on one switch
pub record LiesOn (plan : TopologyPlan) (v : ℕ) : Type 0 where
  pub switch : ℕ
  pub all : AllByRecursion (λ (j : Joint). are_joined (link_joints plan) v j.0.0 ≡ true
      → j.1.0 ≡ switch) (outside_joints plan)

pub linked_lie : (plan : TopologyPlan) → Faultless plan → (v : ℕ) (x : VirtualItem) → slice_get plan.virtuals v ≡ Some x
    → list_any (ends_at v) (link_joints plan) ≡ true → LiesOn plan v
linked_lie plan f v x t e =
    let on = linked_on plan f v x t e in
    record {
      switch = on.switch;
      all = all_kept (λ (j : Joint). j.1.0 ≡ on.switch)
          (λ (o : Joint). are_joined (link_joints plan) v o.0.0) (outside_joints plan) on.all;
    }

-- so it isn't spread
spread_by : (plan : TopologyPlan) (v : ℕ) (o : Option VirtualItem) → slice_get plan.virtuals v ≡ o → LiesOn plan v
    → option_map_or (λ x. lie_apart (item_joints (rows plan) (v, x))) o false ≡ false
spread_by plan v None t l = refl
spread_by plan v (Some x) t l = on_together l.switch (item_joints (rows plan) (v, x))
    (all_of_two (λ (j : Joint). are_joined (link_joints plan) v j.0.0 ≡ true
    → j.1.0 ≡ l.switch) (λ (j : Joint). j.0.0 ≡ v) (λ (j : Joint). j.1.0 ≡ l.switch)
    (λ j g n. g (subst (λ (u : ℕ). are_joined (link_joints plan) v u ≡ true) (sym n)
    (group_joined (link_joints plan) v v refl))) (item_joints (rows plan) (v, x))
    (all_item plan (λ (j : Joint). are_joined (link_joints plan) v j.0.0 ≡ true → j.1.0 ≡ l.switch) v x t l.all)
    (own_numbers (rows plan) v x.ports))

pub linked_unspread : (plan : TopologyPlan) → Faultless plan → (v : ℕ) (x : VirtualItem)
    → slice_get plan.virtuals v ≡ Some x → list_any (ends_at v) (link_joints plan) ≡ true → is_spread_of plan v ≡ false
linked_unspread plan f v x t e = spread_by plan v (slice_get plan.virtuals v) refl (linked_lie plan f v x t e)

-- links lead to virtual switches of one group
pub leads_group : (plan : TopologyPlan) → HaveNumbers plan.switches
    → (exprs : List Policy) (seen : List Bool) (tables : List LeafTable) {v u : ℕ}
    → LeadsTo (record { tables = tables; switches = switches plan exprs seen }) v u
    → group (link_joints plan) v ≡ group (link_joints plan) u
leads_group plan h exprs seen tables at_once = refl
leads_group plan h exprs seen tables (over {v = v} {u = u} p q e rest) =
    (way_is plan h v p (q.v, q.port) (link_peer plan exprs seen v p q e)).joined
    ∙ leads_group plan h exprs seen tables rest

-- whether a virtual switch is spread, by its number
spread_at : (plan : TopologyPlan) (exprs : List Policy) (seen : List Bool) (v : ℕ) (o : Option VirtualItem)
    → slice_get plan.virtuals v ≡ o
    → switch_spread (option_map (λ (x : VirtualItem). virtual_switch plan (expr_at exprs v) (holds_at seen v) (v, x)) o)
    ≡ is_spread_of plan v
spread_at plan exprs seen v None e =
    sym (ap (λ (o : Option VirtualItem). option_map_or (λ x. lie_apart (item_joints (rows plan) (v, x))) o false) e)
spread_at plan exprs seen v (Some x) e = refl

pub spread_is : (plan : TopologyPlan) (exprs : List Policy) (seen : List Bool) (v : ℕ)
    → switch_spread (slice_get (switches plan exprs seen) v) ≡ is_spread_of plan v
spread_is plan exprs seen v = ap switch_spread (switch_at plan exprs seen v)
    ∙ spread_at plan exprs seen v (slice_get plan.virtuals v) refl

-- the outside ports of a virtual switch that isn't spread
pub record OwnOn (plan : TopologyPlan) (v : ℕ) : Type 0 where
  pub switch : ℕ
  pub all : AllByRecursion (λ (j : Joint). j.0.0 ≡ v → j.1.0 ≡ switch) (outside_joints plan)

pub own_on : (plan : TopologyPlan) (v : ℕ) (x : VirtualItem) → slice_get plan.virtuals v ≡ Some x
    → is_spread_of plan v ≡ false → OwnOn plan v
own_on plan v x t e =
    let apart : lie_apart (item_joints (rows plan) (v, x)) ≡ false =
    sym (ap (λ (o : Option VirtualItem). option_map_or (λ x. lie_apart (item_joints (rows plan) (v, x))) o false) t)
    ∙ e in
    let on = together_on (item_joints (rows plan) (v, x)) apart in
    record { switch = on.switch; all = item_all plan (λ (j : Joint). j.1.0 ≡ on.switch) v x t on.all }

-- an outside port of the wiring has its virtual switch
record HasItem (plan : TopologyPlan) (v : ℕ) : Type 0 where
  item : VirtualItem
  there : slice_get plan.virtuals v ≡ Some item

items_there : (plan : TopologyPlan) → HaveNumbers plan.switches
    → AllByRecursion (λ (o : Outside). HasItem plan o.v) (wiring plan).outside
items_there plan h = mapped_all (outside plan) (λ (o : Outside). HasItem plan o.v) (outside_joints plan)
    (all_weaker (IsOutside plan) (λ (j : Joint). HasItem plan j.0.0) (λ j k. record { item = k.item; there = k.there })
    (outside_joints plan) (outside_are plan h))

-- found ports of one virtual switch, or of two that links join
pub own_switch : (plan : TopologyPlan) (v p : ℕ) (a : Outside) → (l : OwnOn plan v)
    → outside_at (wiring plan) v p ≡ Some a → a.at.switch ≡ l.switch
own_switch plan v p a l e = found_is (λ (o : Outside). o.v ≡ v
    → o.at.switch ≡ l.switch) (wiring plan).outside v p a
    (mapped_all (outside plan) (λ (o : Outside). o.v ≡ v → o.at.switch ≡ l.switch) (outside_joints plan) l.all) e
    (found-there v p (wiring plan).outside a e).0.0

joined_switch : (plan : TopologyPlan) (v u p : ℕ) (a : Outside) → (l : LiesOn plan v)
    → group (link_joints plan) v ≡ group (link_joints plan) u → outside_at (wiring plan) u p ≡ Some a
    → a.at.switch ≡ l.switch
joined_switch plan v u p a l g e =
    let at = (found-there u p (wiring plan).outside a e).0.0 in
    found_is (λ (o : Outside). are_joined (link_joints plan) v o.v ≡ true
    → o.at.switch ≡ l.switch) (wiring plan).outside u p a
    (mapped_all (outside plan) (λ (o : Outside). are_joined (link_joints plan) v o.v ≡ true
    → o.at.switch ≡ l.switch) (outside_joints plan) l.all) e
    (group_joined (link_joints plan) v a.v (g ∙ ap (group (link_joints plan)) (sym at)))

together_by : (plan : TopologyPlan) → HaveNumbers plan.switches → Faultless plan
    → (exprs : List Policy) (seen : List Bool) (tables : List LeafTable) {v u : ℕ}
    → LeadsTo (record { tables = tables; switches = switches plan exprs seen }) v u
    → (p q : ℕ) (a b : Outside) → switch_spread (slice_get (switches plan exprs seen) v) ≡ false
    → outside_at (wiring plan) v p ≡ Some a → outside_at (wiring plan) u q ≡ Some b → a.at.switch ≡ b.at.switch
together_by plan h f exprs seen tables (at_once {v = v}) p q a b s k l =
    let x = found_is (λ (o : Outside). HasItem plan o.v) (wiring plan).outside v p a (items_there plan h) k in
    let there = subst (λ (n : ℕ). slice_get plan.virtuals n ≡ Some x.item)
    (found-there v p (wiring plan).outside a k).0.0 x.there in
    let on = own_on plan v x.item there (sym (spread_is plan exprs seen v) ∙ s) in
    own_switch plan v p a on k ∙ sym (own_switch plan v q b on l)
together_by plan h f exprs seen tables (over {v = v} {u = u} port peer e rest) p q a b s k l =
    let w = way_is plan h v port (peer.v, peer.port) (link_peer plan exprs seen v port peer e) in
    let on = linked_lie plan f v w.from.item w.from.there w.from_ends in
    joined_switch plan v v p a on refl k
    ∙ sym (joined_switch plan v u q b on (w.joined ∙ leads_group plan h exprs seen tables rest) l)

pub together : (plan : TopologyPlan) → HaveNumbers plan.switches → Faultless plan
    → (exprs : List Policy) (seen : List Bool) (tables : List LeafTable) (v u p q : ℕ) (a b : Outside)
    → switch_spread (slice_get (switches plan exprs seen) v) ≡ false
    → LeadsTo (record { tables = tables; switches = switches plan exprs seen }) v u
    → outside_at (wiring plan) v p ≡ Some a → outside_at (wiring plan) u q ≡ Some b → a.at.switch ≡ b.at.switch
together plan h f exprs seen tables v u p q a b s l e k = together_by plan h f exprs seen tables l p q a b s e k

-- a virtual switch of the setting is one of the plan
pub record IsSwitch (plan : TopologyPlan) (exprs : List Policy) (seen : List Bool) (v : ℕ) (x : SwitchOf) : Type 0 where
  pub item : VirtualItem
  pub there : slice_get plan.virtuals v ≡ Some item
  pub is : virtual_switch plan (expr_at exprs v) (holds_at seen v) (v, item) ≡ x

switch_by : (plan : TopologyPlan) (exprs : List Policy) (seen : List Bool) (v : ℕ) (x : SwitchOf)
    (o : Option VirtualItem) → slice_get plan.virtuals v ≡ o
    → option_map (λ (y : VirtualItem). virtual_switch plan (expr_at exprs v) (holds_at seen v) (v, y)) o ≡ Some x
    → IsSwitch plan exprs seen v x
switch_by plan exprs seen v x None t e = absurd (cc)
switch_by plan exprs seen v x (Some y) t e = record { item = y; there = t; is = some_injective e }

pub switch_is : (plan : TopologyPlan) (exprs : List Policy) (seen : List Bool) (v : ℕ) (x : SwitchOf)
    → slice_get (switches plan exprs seen) v ≡ Some x → IsSwitch plan exprs seen v x
switch_is plan exprs seen v x e = switch_by plan exprs seen v x (slice_get plan.virtuals v) refl
    (sym (switch_at plan exprs seen v) ∙ e)

-- without links
none_linked : {A B : Type 0} (f : A → Option B) (xs : List A) → AllByRecursion (λ x. f x ≡ None) xs
    → filter_map f xs ≡ []
none_linked f [] h = refl
none_linked f (x ∷ xs) h = rw h.0 (none_linked f xs h.1)

all_of : {A : Type 0} (P : A → Type 0) → ((x : A) → P x) → (xs : List A) → AllByRecursion P xs
all_of P f [] = tt
all_of P f (x ∷ xs) = (f x, all_of P f xs)

no_link : (plan : TopologyPlan) (v : ℕ) (q : VirtualPort) (o : Option Spot) → peer_of plan v q.port ≡ o
    → ((s : Spot) → peer_of plan v q.port ≡ Some s → ⊥)
    → option_map {U = Link} (λ s. record { port = q.port; peer = place s }) o ≡ None
no_link plan v q None t f = refl
no_link plan v q (Some s) t f = absurd (f s t)

pub no_links : (plan : TopologyPlan) (v : ℕ) (qs : List VirtualPort)
    → ((p : ℕ) (s : Spot) → peer_of plan v p ≡ Some s → ⊥) → filter_map (link plan v) qs ≡ []
no_links plan v qs f = none_linked (link plan v) qs
    (all_of (λ q. link plan v q ≡ None) (λ q. no_link plan v q (peer_of plan v q.port) refl (f q.port)) qs)

pub spread_unlinked : (plan : TopologyPlan) → HaveNumbers plan.switches → Faultless plan → (v : ℕ)
    → is_spread_of plan v ≡ true → (p : ℕ) (s : Spot) → peer_of plan v p ≡ Some s → ⊥
spread_unlinked plan h f v e p s t =
    let w = way_is plan h v p s t in
    let none = linked_unspread plan f v w.from.item w.from.there w.from_ends in
    cc

-- a link leads to a port
any_both : (p : ℕ) (xs ys : List ℕ) → has_port ys p ≡ true → has_port (xs ++ ys) p ≡ true
any_both p [] ys e = e
any_both p (x ∷ xs) ys e = or_right (x == p) (has_port (xs ++ ys) p) (any_both p xs ys e)

linked_next : (plan : TopologyPlan) (v n : ℕ) (q : VirtualPort) (rest : List Link) (o : Option Spot) → q.port ≡ n
    → is_some o ≡ true
    → has_port
    (map (λ (l : Link). l.port) (cons_option (option_map (λ s. record { port = q.port; peer = place s }) o) rest)) n
    ≡ true
linked_next plan v n q rest None t e = absurd (cc)
linked_next plan v n q rest (Some s) t e = rw (eq-eqb q.port n t) refl

later_port : (n : ℕ) (rest : List Link) (o : Option Link) → has_port (map (λ (l : Link). l.port) rest) n ≡ true
    → has_port (map (λ (l : Link). l.port) (cons_option o rest)) n ≡ true
later_port n rest None e = e
later_port n rest (Some l) e = or_right (l.port == n) (has_port (map (λ (l : Link). l.port) rest) n) e

link_there : (plan : TopologyPlan) (v n : ℕ) (q : VirtualPort) (qs : List VirtualPort) (b : Bool) → has_link n q ≡ b
    → b || list_any (has_link n) qs ≡ true → is_some (peer_of plan v n) ≡ true
    → (list_any (has_link n) qs ≡ true → has_port (map (λ (l : Link). l.port) (filter_map (link plan v) qs)) n ≡ true)
    → has_port (map (λ (l : Link). l.port) (filter_map (link plan v) (q ∷ qs))) n ≡ true
link_there plan v n q qs true t e k f =
    let same : q.port ≡ n = eqb-true q.port n (split_and (is_none q.at) (q.port == n) t).1 in
    linked_next plan v n q (filter_map (link plan v) qs) (peer_of plan v q.port) same
    (subst (λ (m : ℕ). is_some (peer_of plan v m) ≡ true) (sym same) k)
link_there plan v n q qs false t e k f = later_port n (filter_map (link plan v) qs) (link plan v q) (f e)

links_there : (plan : TopologyPlan) (v n : ℕ) (qs : List VirtualPort) → list_any (has_link n) qs ≡ true
    → is_some (peer_of plan v n) ≡ true → has_port (map (λ (l : Link). l.port) (filter_map (link plan v) qs)) n ≡ true
links_there plan v n [] e k = absurd (cc)
links_there plan v n (q ∷ qs) e k = link_there plan v n q qs (has_link n q) refl e k (λ f. links_there plan v n qs f k)

pub peers : (plan : TopologyPlan) → HaveNumbers plan.switches → Faultless plan
    → (exprs : List Policy) (seen : List Bool) (v p : ℕ) (q : Place)
    → peer_in (switch_links (slice_get (switches plan exprs seen) v)) p ≡ Some q
    → (switch_has (slice_get (switches plan exprs seen) q.v) q.port ≡ true)
    × (switch_spread (slice_get (switches plan exprs seen) q.v) ≡ false)
peers plan h f exprs seen v p q e =
    let w = way_is plan h v p (q.v, q.port) (link_peer plan exprs seen v p q e) in
    let at : slice_get (switches plan exprs seen) q.v
    ≡ Some (virtual_switch plan (expr_at exprs q.v) (holds_at seen q.v) (q.v, w.to.item)) =
    switch_at plan exprs seen q.v
    ∙ ap (option_map (λ (x : VirtualItem). virtual_switch plan (expr_at exprs q.v) (holds_at seen q.v) (q.v, x)))
    w.to.there in (
      ap (λ (o : Option SwitchOf). switch_has o q.port) at
          ∙ any_both q.port _ _ (links_there plan q.v q.port w.to.item.ports w.to.listed w.back),
      spread_is plan exprs seen q.v ∙ linked_unspread plan f q.v w.to.item w.to.there w.to_ends,
    )
