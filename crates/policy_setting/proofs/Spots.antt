-- Where places lie.
use Rattle.std.proofs.Common.{◌≡◌, ◌∙◌, sym, ap, subst, ℕ, ◌<◌, ◌==◌, ◌&&◌, ◌||◌, Bool, true, false, cond, List, []}
use Rattle.std.proofs.Common.{◌∷◌, ◌++◌, Option, Some, None, map, arith, refl}
use Rattle.std.specs.Prelude.{slice_get, flat_map, is_none}
use Rattle.std.specs.Cmp.Lexicographic.{pointwise}
use Rattle.std.specs.List.{AllByRecursion, enumerate_from, list_any}
use Rattle.std.specs.Map.{lookup}
use Rattle.std.proofs.lemmas.Slice.Eq.{bytes_eq-Decides}
use Rattle.std.proofs.lemmas.Bool.Decides.{nat_tests}
use Rattle.virtual_topology.specs.declared.plan.PortPlace.{PortPlace}
use Rattle.virtual_topology.specs.declared.plan.SwitchItem.{SwitchItem}
use Rattle.virtual_topology.specs.declared.plan.TopologyPlan.{TopologyPlan}
use Rattle.virtual_topology.specs.declared.plan.VirtualItem.{VirtualItem}
use Rattle.virtual_topology.specs.declared.plan.VirtualPort.{VirtualPort}
use Rattle.virtual_topology.specs.declared.uses.Role.{Role}
use Rattle.virtual_topology.specs.declared.uses.Role.TheVariants.{Physical, Virtual, Link}
use Rattle.virtual_topology.specs.Places.{PlaceUse, same_name, same_place, same_role, same_use, at_port, in_role}
use Rattle.virtual_topology.specs.Rows.{Spot, Row, rows, switch_rows, all_switch_rows, link_row, port_rows}
use Rattle.virtual_topology.specs.Rows.{virtual_rows, all_virtual_rows, where_is}
use Rattle.policy_setting.specs.Premises.{HaveNumbers}
use Rattle.policy_setting.proofs.Parts.{all_weaker, all_of_two, all_both, all_joined, mapped_all, numbered}
use Rattle.policy_setting.proofs.Parts.{all_numbered}

pub and_left : (a b : Bool) → a && b ≡ true → a ≡ true
and_left true b e = refl
and_left false b e = absurd (cc)

pub and_right : (a b : Bool) → a && b ≡ true → b ≡ true
and_right true b e = e
and_right false b e = absurd (cc)

pub or_right : (a b : Bool) → b ≡ true → a || b ≡ true
or_right true b e = refl
or_right false b e = e

pub or_left_false : (a b : Bool) → a || b ≡ false → a ≡ false
or_left_false false b e = refl
or_left_false true b e = absurd (cc)

pub or_right_false : (a b : Bool) → a || b ≡ false → b ≡ false
or_right_false false b e = e
or_right_false true b e = absurd (cc)

-- a port of a physical switch, whose number is one of a port
pub record IsSwitchPort (plan : TopologyPlan) (place : PortPlace) (spot : Spot) : Type 0 where
  pub switch : SwitchItem
  pub there : slice_get plan.switches spot.0 ≡ Some switch
  pub at : place ≡ at_port switch.name spot.1
  pub number : spot.1 < 65280

-- a port of a virtual switch
pub record IsVirtualPort (plan : TopologyPlan) (place : PortPlace) (spot : Spot) : Type 0 where
  pub item : VirtualItem
  pub there : slice_get plan.virtuals spot.0 ≡ Some item
  pub at : place ≡ at_port item.name spot.1

-- a link port of this number
abbrev pub has_link : ℕ → VirtualPort → Bool
has_link n q = is_none q.at && (q.port == n)

-- a link port of a virtual switch
pub record IsLinkPort (plan : TopologyPlan) (place : PortPlace) (spot : Spot) : Type 0 where
  pub item : VirtualItem
  pub there : slice_get plan.virtuals spot.0 ≡ Some item
  pub at : place ≡ at_port item.name spot.1
  pub listed : list_any (has_link spot.1) item.ports ≡ true

abbrev pub IsPort : TopologyPlan → Role → PortPlace → Spot → Type 0
IsPort plan Physical = IsSwitchPort plan
IsPort plan Virtual = IsVirtualPort plan
IsPort plan Link = IsLinkPort plan

abbrev pub IsRow : TopologyPlan → Row → Type 0
IsRow plan r = IsPort plan r.0.role r.0.place r.1

switch_rows_are : (plan : TopologyPlan) (i : ℕ) (s : SwitchItem) → slice_get plan.switches i ≡ Some s
    → AllByRecursion (λ p. p < 65280) s.ports → AllByRecursion (IsRow plan) (switch_rows (i, s))
switch_rows_are plan i s t h = mapped_all (λ p. (in_role Physical (at_port s.name p), (i, p))) (IsRow plan) s.ports
    (all_weaker (λ p. p < 65280) (λ p. IsSwitchPort plan (at_port s.name p) (i, p))
    (λ p l. record { switch = s; there = t; at = refl; number = l }) s.ports h)

all_switch_rows_are : (plan : TopologyPlan) → HaveNumbers plan.switches
    → AllByRecursion (IsRow plan) (all_switch_rows plan.switches)
all_switch_rows_are plan h = all_joined switch_rows (IsRow plan) (enumerate_from 0 plan.switches)
    (all_of_two (λ (i : ℕ × SwitchItem). slice_get plan.switches i.0 ≡ Some i.1)
    (λ (i : ℕ × SwitchItem). AllByRecursion (λ p. p < 65280) i.1.ports)
    (λ i. AllByRecursion (IsRow plan) (switch_rows i))
    (λ i t k. switch_rows_are plan i.0 i.1 t k) (enumerate_from 0 plan.switches) (numbered plan.switches)
    (all_numbered (λ (s : SwitchItem). AllByRecursion (λ p. p < 65280) s.ports) 0 plan.switches h))

link_row_is : (plan : TopologyPlan) (v : ℕ) (x : VirtualItem) (q : VirtualPort) (at : Option PortPlace)
    → slice_get plan.virtuals v ≡ Some x → (is_none at ≡ true → list_any (has_link q.port) x.ports ≡ true)
    → AllByRecursion (IsRow plan) (link_row at (at_port x.name q.port) (v, q.port))
link_row_is plan v x q None t l = (record { item = x; there = t; at = refl; listed = l refl }, tt)
link_row_is plan v x q (Some place) t l = tt

port_rows_are : (plan : TopologyPlan) (v : ℕ) (x : VirtualItem) (q : VirtualPort) → slice_get plan.virtuals v ≡ Some x
    → (is_none q.at ≡ true → list_any (has_link q.port) x.ports ≡ true)
    → AllByRecursion (IsRow plan) (port_rows v x.name q)
port_rows_are plan v x q t l = (record { item = x; there = t; at = refl }, link_row_is plan v x q q.at t l)

-- each link port is listed by its number
listed_more : (q p : VirtualPort) (qs : List VirtualPort) → (is_none q.at ≡ true → list_any (has_link q.port) qs ≡ true)
    → is_none q.at ≡ true → list_any (has_link q.port) (p ∷ qs) ≡ true
listed_more q p qs f e = or_right (has_link q.port p) (list_any (has_link q.port) qs) (f e)

listed_here : (q : VirtualPort) (qs : List VirtualPort) → is_none q.at ≡ true
    → list_any (has_link q.port) (q ∷ qs) ≡ true
listed_here q qs e = grind (arith, nat_tests)

all_listed : (qs : List VirtualPort)
    → AllByRecursion (λ (q : VirtualPort). is_none q.at ≡ true → list_any (has_link q.port) qs ≡ true) qs
all_listed [] = tt
all_listed (p ∷ qs) = (
  listed_here p qs,
  all_weaker (λ (q : VirtualPort). is_none q.at ≡ true
      → list_any (has_link q.port) qs ≡ true) (λ (q : VirtualPort). is_none q.at ≡ true
      → list_any (has_link q.port) (p ∷ qs) ≡ true) (λ q f. listed_more q p qs f) qs (all_listed qs),
)

virtual_rows_are : (plan : TopologyPlan) (v : ℕ) (x : VirtualItem) → slice_get plan.virtuals v ≡ Some x
    → AllByRecursion (IsRow plan) (virtual_rows (v, x))
virtual_rows_are plan v x t = all_joined (port_rows v x.name) (IsRow plan) x.ports
    (all_weaker (λ (q : VirtualPort). is_none q.at ≡ true
    → list_any (has_link q.port) x.ports ≡ true) (λ q. AllByRecursion (IsRow plan) (port_rows v x.name q))
    (λ q l. port_rows_are plan v x q t l) x.ports (all_listed x.ports))

all_virtual_rows_are : (plan : TopologyPlan) → AllByRecursion (IsRow plan) (all_virtual_rows plan.virtuals)
all_virtual_rows_are plan = all_joined virtual_rows (IsRow plan) (enumerate_from 0 plan.virtuals)
    (all_weaker (λ (i : ℕ × VirtualItem). slice_get plan.virtuals i.0 ≡ Some i.1)
    (λ i. AllByRecursion (IsRow plan) (virtual_rows i)) (λ i t. virtual_rows_are plan i.0 i.1 t)
    (enumerate_from 0 plan.virtuals) (numbered plan.virtuals))

rows_are : (plan : TopologyPlan) → HaveNumbers plan.switches → AllByRecursion (IsRow plan) (rows plan)
rows_are plan h = all_both (IsRow plan) (all_switch_rows plan.switches) (all_virtual_rows plan.virtuals)
    (all_switch_rows_are plan h) (all_virtual_rows_are plan)

-- the row that is found
record IsFound (plan : TopologyPlan) (u : PlaceUse) (spot : Spot) : Type 0 where
  key : PlaceUse
  same : same_use u key ≡ true
  row : IsRow plan (key, spot)

found_next : (plan : TopologyPlan) (u : PlaceUse) (r : Row) (b : Bool) (rest : Option Spot) (spot : Spot)
    → same_use u r.0 ≡ b → IsRow plan r → cond b (Some r.1) rest ≡ Some spot → (rest ≡ Some spot → IsFound plan u spot)
    → IsFound plan u spot
found_next plan u r true rest spot t k e f = let p : r.1 ≡ spot = cc in
    record { key = r.0; same = t; row = subst (λ (s : Spot). IsRow plan (r.0, s)) p k }
found_next plan u r false rest spot t k e f = f e

found_row : (plan : TopologyPlan) (u : PlaceUse) (rs : List Row) (spot : Spot) → AllByRecursion (IsRow plan) rs
    → lookup (same_use u) rs ≡ Some spot → IsFound plan u spot
found_row plan u [] spot h e = absurd (cc)
found_row plan u (r ∷ rs) spot h e = found_next plan u r (same_use u r.0) (lookup (same_use u) rs) spot refl h.0 e
    (λ f. found_row plan u rs spot h.1 f)

-- places and uses that are the same
pub same_place_is : (a b : PortPlace) → same_place a b ≡ true → a ≡ b
same_place_is a b e =
    let n : a.name ≡ b.name = (bytes_eq-Decides a.name b.name).0
    (and_left (same_name a.name b.name) (a.port == b.port) e) in
    let p : a.port ≡ b.port = grind (arith, nat_tests, and_right (same_name a.name b.name) (a.port == b.port) e) in
    λ i. record { name = n i; port = p i }

same_role_is : (a b : Role) → same_role a b ≡ true → a ≡ b
same_role_is Physical Physical e = refl
same_role_is Virtual Virtual e = refl
same_role_is Link Link e = refl
same_role_is Physical Virtual e = absurd (cc)
same_role_is Physical Link e = absurd (cc)
same_role_is Virtual Physical e = absurd (cc)
same_role_is Virtual Link e = absurd (cc)
same_role_is Link Physical e = absurd (cc)
same_role_is Link Virtual e = absurd (cc)

pub same_use_is : (a b : PlaceUse) → same_use a b ≡ true → a ≡ b
same_use_is a b e =
    let r : a.role ≡ b.role = same_role_is a.role b.role
    (and_left (same_role a.role b.role) (same_place a.place b.place) e) in
    let p : a.place ≡ b.place = same_place_is a.place b.place
    (and_right (same_role a.role b.role) (same_place a.place b.place) e) in
    λ i. record { role = r i; place = p i }

-- a place that is found is such a port
pub port_found : (plan : TopologyPlan) → HaveNumbers plan.switches → (role : Role) (place : PortPlace) (spot : Spot)
    → where_is (rows plan) role place ≡ Some spot → IsPort plan role place spot
port_found plan h role place spot e =
    let f = found_row plan (in_role role place) (rows plan) spot (rows_are plan h) e in
    subst (λ (u : PlaceUse). IsPort plan u.role u.place spot) (sym (same_use_is (in_role role place) f.key f.same))
    f.row
