-- Outside ports, cables and links of a plan without fault, by numbers.
use Rattle.std.proofs.Common.{◌≡◌, ◌∙◌, sym, ap, subst, ℕ, suc, ◌+◌, ◌<◌, ◌==◌, ◌&&◌, Bool, true, false, List, [], ◌∷◌}
use Rattle.std.proofs.Common.{◌++◌, Option, Some, None, map, arith, refl}
use Rattle.std.specs.Prelude.{slice_get, flat_map, filter_map, is_some}
use Rattle.std.specs.List.{cons_option, AllByRecursion, enumerate_from, list_any}
use Rattle.std.specs.Map.{lookup}
use Rattle.std.specs.Option.{option_map, option_and_then}
use Rattle.std.proofs.lemmas.Bool.{eqb-true, eq-eqb}
use Rattle.std.proofs.lemmas.Slice.Eq.{bytes_eq-Decides}
use Rattle.policy_meaning.proofs.Booleans.{split_and, join_and, fails, some_injective}
use Rattle.policy_meaning.specs.LeafFact.{EachPair}
use Rattle.virtual_topology.specs.declared.plan.PairItem.{PairItem}
use Rattle.virtual_topology.specs.declared.plan.PortPlace.{PortPlace}
use Rattle.virtual_topology.specs.declared.plan.TopologyPlan.{TopologyPlan}
use Rattle.virtual_topology.specs.declared.plan.VirtualItem.{VirtualItem}
use Rattle.virtual_topology.specs.declared.plan.VirtualPort.{VirtualPort}
use Rattle.virtual_topology.specs.declared.uses.Role.{Role}
use Rattle.virtual_topology.specs.declared.uses.Role.TheVariants.{Physical, Virtual, Link}
use Rattle.virtual_topology.specs.Faults.{misshapen, unlike_link, looped}
use Rattle.virtual_topology.specs.Places.{PlaceUse, same_name, same_place, same_role, same_use, in_role, pair_uses}
use Rattle.virtual_topology.specs.Places.{virtual_uses, uses}
use Rattle.virtual_topology.specs.Rows.{Spot, rows, same_spot, where_is}
use Rattle.virtual_topology.specs.Wires.{Joint, outside_row, item_joints, outside_joints, both, pair_joint}
use Rattle.virtual_topology.specs.Wires.{joints_among, cable_joints, link_joints}
use Rattle.virtual_topology.proofs.Counted.{neither}
use Rattle.policy_setting.specs.Premises.{HaveNumbers}
use Rattle.policy_setting.proofs.Parts.{Part, all_weaker, all_of_two, all_part, all_mapped, pairs_part, pairs_mapped}
use Rattle.policy_setting.proofs.Parts.{pairs_first, pairs_second, pairs_across, pairs_weaker, all_joined, all_first}
use Rattle.policy_setting.proofs.Parts.{numbered}
use Rattle.policy_setting.proofs.Spots.{IsSwitchPort, IsLinkPort, port_found}
use Rattle.policy_setting.proofs.Apart.{Apart, Faultless, use_at, outside_part, physical_shows, virtual_shows}
use Rattle.policy_setting.proofs.Apart.{joint_ends, pairs_ends}

-- a use is the same as itself
same_role_self : (r : Role) → same_role r r ≡ true
same_role_self Physical = refl
same_role_self Virtual = refl
same_role_self Link = refl

pub same_use_self : (u : PlaceUse) → same_use u u ≡ true
same_use_self u = join_and _ _ (same_role_self u.role)
    (join_and _ _ ((bytes_eq-Decides u.place.name u.place.name).1 refl) (eq-eqb u.place.port u.place.port refl))

-- two are not one
abbrev pub Differ : {A : Type 0} → A → A → Type 0
Differ a b = a ≡ b → ⊥

apart_differ : (plan : TopologyPlan) (role : Role) (s t : Spot) → Apart (use_at plan role s) (use_at plan role t)
    → Differ s t
apart_differ plan role s t a e =
    let same : same_use (use_at plan role t) (use_at plan role s) ≡ true =
    subst (λ (z : Spot). same_use (use_at plan role z) (use_at plan role s) ≡ true) e
    (same_use_self (use_at plan role s)) in
    cc

pub all_units : {A : Type 0} (xs : List A) → AllByRecursion (λ _. Unit {0}) xs
all_units [] = tt
all_units (x ∷ xs) = (tt, all_units xs)

-- no two outside ports are one physical port, and none stands twice
pub physical_once : (plan : TopologyPlan) → HaveNumbers plan.switches → Faultless plan
    → EachPair (λ (j k : Joint). Differ j.1 k.1) (outside_joints plan)
physical_once plan h f =
    let later = pairs_second Apart (pair_uses Physical plan.cables) _ f.once in
    let own = pairs_first Apart (virtual_uses plan.virtuals) (pair_uses Link plan.links) later in
    let shown = pairs_mapped (λ (j : Joint). use_at plan Physical j.1) Apart (outside_joints plan)
    (pairs_part Apart (outside_part plan Physical (λ j. j.1) (physical_shows plan h)) own) in
    pairs_weaker (λ _. Unit {0}) (λ (j k : Joint). Apart (use_at plan Physical j.1) (use_at plan Physical k.1))
    (λ (j k : Joint). Differ j.1 k.1) (λ j k _ _ a. apart_differ plan Physical j.1 k.1 a) (outside_joints plan)
    (all_units (outside_joints plan)) shown

pub virtual_once : (plan : TopologyPlan) → Faultless plan
    → EachPair (λ (j k : Joint). Differ j.0 k.0) (outside_joints plan)
virtual_once plan f =
    let later = pairs_second Apart (pair_uses Physical plan.cables) _ f.once in
    let own = pairs_first Apart (virtual_uses plan.virtuals) (pair_uses Link plan.links) later in
    let shown = pairs_mapped (λ (j : Joint). use_at plan Virtual j.0) Apart (outside_joints plan)
    (pairs_part Apart (outside_part plan Virtual (λ j. j.0) (virtual_shows plan)) own) in
    pairs_weaker (λ _. Unit {0}) (λ (j k : Joint). Apart (use_at plan Virtual j.0) (use_at plan Virtual k.0))
    (λ (j k : Joint). Differ j.0 k.0) (λ j k _ _ a. apart_differ plan Virtual j.0 k.0 a) (outside_joints plan)
    (all_units (outside_joints plan)) shown

-- no port has two cables
pub cables_once : (plan : TopologyPlan) → HaveNumbers plan.switches → Faultless plan
    → EachPair (Differ {A = Spot}) (joint_ends (cable_joints plan))
cables_once plan h f =
    let own = pairs_first Apart (pair_uses Physical plan.cables) _ f.once in
    let shown = pairs_mapped (use_at plan Physical) Apart (joint_ends (cable_joints plan))
    (pairs_part Apart (pairs_ends plan h Physical plan.cables f.cables) own) in
    pairs_weaker (λ _. Unit {0}) (λ s t. Apart (use_at plan Physical s) (use_at plan Physical t)) Differ
    (λ s t _ _ a. apart_differ plan Physical s t a) (joint_ends (cable_joints plan))
    (all_units (joint_ends (cable_joints plan))) shown

-- nor two links
links_looped : (plan : TopologyPlan) (l : PairItem) → misshapen (rows plan) l ≡ None → looped l ≡ None
links_looped plan l e =
    (neither (unlike_link (rows plan) l.b) (looped l) (neither (unlike_link (rows plan) l.a) _ e).1).1

pub links_once : (plan : TopologyPlan) → HaveNumbers plan.switches → Faultless plan
    → EachPair (Differ {A = Spot}) (joint_ends (link_joints plan))
links_once plan h f =
    let later = pairs_second Apart (pair_uses Physical plan.cables) _ f.once in
    let own = pairs_second Apart (virtual_uses plan.virtuals) (pair_uses Link plan.links) later in
    let shapes = all_weaker (λ l. misshapen (rows plan) l ≡ None) (λ l. looped l ≡ None) (links_looped plan) plan.links
    f.links in
    let shown = pairs_mapped (use_at plan Link) Apart (joint_ends (link_joints plan))
    (pairs_part Apart (pairs_ends plan h Link plan.links shapes) own) in
    pairs_weaker (λ _. Unit {0}) (λ s t. Apart (use_at plan Link s) (use_at plan Link t)) Differ
    (λ s t _ _ a. apart_differ plan Link s t a) (joint_ends (link_joints plan))
    (all_units (joint_ends (link_joints plan))) shown

all_turned : {A B : Type 0} (R : A → B → Type 0) (xs : List A) (ys : List B)
    → AllByRecursion (λ x. AllByRecursion (R x) ys) xs → AllByRecursion (λ y. AllByRecursion (λ x. R x y) xs) ys
all_turned R xs [] h = tt
all_turned R xs (y ∷ ys) h = (
  all_weaker (λ x. AllByRecursion (R x) (y ∷ ys)) (λ x. R x y) (λ x k. k.0) xs h,
  all_turned R xs ys (all_weaker (λ x. AllByRecursion (R x) (y ∷ ys)) (λ x. AllByRecursion (R x) ys) (λ x k. k.1) xs
      h),
)

-- no cable ends at an outside port
pub cables_open : (plan : TopologyPlan) → HaveNumbers plan.switches → Faultless plan
    → AllByRecursion (λ (j : Joint). AllByRecursion (λ (s : Spot). Differ s j.1) (joint_ends (cable_joints plan)))
    (outside_joints plan)
cables_open plan h f =
    let across = pairs_across Apart (pair_uses Physical plan.cables) _ f.once in
    let own = all_weaker (λ x. AllByRecursion (Apart x) (virtual_uses plan.virtuals ++ pair_uses Link plan.links))
    (λ x. AllByRecursion (Apart x) (virtual_uses plan.virtuals))
    (λ x k. all_first (Apart x) (virtual_uses plan.virtuals) (pair_uses Link plan.links) k)
    (pair_uses Physical plan.cables) across in
    let ends = all_part (λ x. AllByRecursion (Apart x) (virtual_uses plan.virtuals))
    (pairs_ends plan h Physical plan.cables f.cables) own in
    let spots = all_mapped (use_at plan Physical) (λ x. AllByRecursion (Apart x) (virtual_uses plan.virtuals))
    (joint_ends (cable_joints plan)) ends in
    all_turned (λ (s : Spot) (j : Joint). Differ s j.1) (joint_ends (cable_joints plan)) (outside_joints plan)
    (all_weaker (λ s. AllByRecursion (Apart (use_at plan Physical s)) (virtual_uses plan.virtuals))
    (λ s. AllByRecursion (λ (j : Joint). Differ s j.1) (outside_joints plan))
    (λ s k. all_weaker (λ (j : Joint). Apart (use_at plan Physical s) (use_at plan Physical j.1))
    (λ (j : Joint). Differ s j.1) (λ j a. apart_differ plan Physical s j.1 a) (outside_joints plan)
    (all_mapped (λ (j : Joint). use_at plan Physical j.1) (Apart (use_at plan Physical s)) (outside_joints plan)
    (all_part (Apart (use_at plan Physical s)) (outside_part plan Physical (λ j. j.1) (physical_shows plan h)) k)))
    (joint_ends (cable_joints plan)) spots)

-- a physical switch of this number is there
pub record SwitchIsThere (plan : TopologyPlan) (i : ℕ) : Type 0 where
  pub is : is_some (slice_get plan.switches i) ≡ true

-- where an outside port lies, and whose it is
pub record IsOutside (plan : TopologyPlan) (j : Joint) : Type 0 where
  pub item : VirtualItem
  pub there : slice_get plan.virtuals j.0.0 ≡ Some item
  pub number : j.1.1 < 65280
  pub below : SwitchIsThere plan j.1.0

all_filtered_next : {A B : Type 0} (f : A → Option B) (P : B → Type 0) (x : A) (o : Option B) → f x ≡ o → (ys : List B)
    → ((y : B) → f x ≡ Some y → P y) → AllByRecursion P ys → AllByRecursion P (cons_option o ys)
all_filtered_next f P x None e ys g h = h
all_filtered_next f P x (Some y) e ys g h = (g y e, h)

pub all_filtered : {A B : Type 0} (f : A → Option B) (P : B → Type 0) → ((x : A) (y : B) → f x ≡ Some y → P y)
    → (xs : List A) → AllByRecursion P (filter_map f xs)
all_filtered f P g [] = tt
all_filtered f P g (x ∷ xs) = all_filtered_next f P x (f x) refl (filter_map f xs) (g x) (all_filtered f P g xs)

outside_at_spot : (plan : TopologyPlan) → HaveNumbers plan.switches → (v port : ℕ) (x : VirtualItem)
    → slice_get plan.virtuals v ≡ Some x → (place : PortPlace) (o : Option Spot)
    → where_is (rows plan) Physical place ≡ o → (j : Joint) → option_map (λ s. ((v, port), s)) o ≡ Some j
    → IsOutside plan j
outside_at_spot plan h v port x t place None w j e = absurd (cc)
outside_at_spot plan h v port x t place (Some s) w j e =
    let p = port_found plan h Physical place s w in
    let same : ((v, port), s) ≡ j = cc e in
    subst (IsOutside plan) same
    (record { item = x; there = t; number = p.number; below = record { is = ap is_some p.there } })

outside_at_place : (plan : TopologyPlan) → HaveNumbers plan.switches → (v port : ℕ) (x : VirtualItem)
    → slice_get plan.virtuals v ≡ Some x → (at : Option PortPlace) (j : Joint)
    → option_map (λ s. ((v, port), s)) (option_and_then (where_is (rows plan) Physical) at) ≡ Some j → IsOutside plan j
outside_at_place plan h v port x t None j e = absurd (cc)
outside_at_place plan h v port x t (Some place) j e =
    outside_at_spot plan h v port x t place (where_is (rows plan) Physical place) refl j e

outside_is : (plan : TopologyPlan) → HaveNumbers plan.switches → (v : ℕ) (x : VirtualItem)
    → slice_get plan.virtuals v ≡ Some x → (q : VirtualPort) (j : Joint) → outside_row (rows plan) v q ≡ Some j
    → IsOutside plan j
outside_is plan h v x t q j e = outside_at_place plan h v q.port x t q.at j e

pub outside_are : (plan : TopologyPlan) → HaveNumbers plan.switches
    → AllByRecursion (IsOutside plan) (outside_joints plan)
outside_are plan h = all_joined (item_joints (rows plan)) (IsOutside plan) (enumerate_from 0 plan.virtuals)
    (all_weaker (λ (i : ℕ × VirtualItem). slice_get plan.virtuals i.0 ≡ Some i.1)
    (λ i. AllByRecursion (IsOutside plan) (item_joints (rows plan) i))
    (λ i t. all_filtered (outside_row (rows plan) i.0) (IsOutside plan) (λ q j e. outside_is plan h i.0 i.1 t q j e)
    i.1.ports) (enumerate_from 0 plan.virtuals) (numbered plan.virtuals))

-- what holds of both ends of a joint of pairs
pub record EndsAre (P : Spot → Type 0) (j : Joint) : Type 0 where
  pub one : P j.0
  pub other : P j.1

pair_is : (plan : TopologyPlan) (role : Role) (P : Spot → Type 0)
    → ((place : PortPlace) (s : Spot) → where_is (rows plan) role place ≡ Some s → P s)
    → (pair : PairItem) (a b : Option Spot) → where_is (rows plan) role pair.a ≡ a
    → where_is (rows plan) role pair.b ≡ b → (j : Joint) → both a b ≡ Some j → EndsAre P j
pair_is plan role P f pair (Some s) (Some t) k l j e = let same : (s, t) ≡ j = cc e in
    subst (EndsAre P) same (record { one = f pair.a s k; other = f pair.b t l })
pair_is plan role P f pair (Some s) None k l j e = absurd (cc)
pair_is plan role P f pair None b k l j e = absurd (cc)

pub pair_ends_are : (plan : TopologyPlan) → HaveNumbers plan.switches → (role : Role) (P : Spot → Type 0)
    → ((place : PortPlace) (s : Spot) → where_is (rows plan) role place ≡ Some s → P s) → (pairs : List PairItem)
    → AllByRecursion (EndsAre P) (joints_among (rows plan) role pairs)
pair_ends_are plan h role P f pairs = all_filtered (pair_joint (rows plan) role) (EndsAre P)
    (λ pair j e. pair_is plan role P f pair (where_is (rows plan) role pair.a) (where_is (rows plan) role pair.b) refl
    refl j e) pairs
