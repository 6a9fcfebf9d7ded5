-- Places of a plan without fault are used once.
use Rattle.std.proofs.Common.{◌≡◌, ◌∙◌, sym, ap, subst, ℕ, suc, ◌+◌, ◌==◌, ◌&&◌, Bool, true, false, cond, List, [], ◌∷◌}
use Rattle.std.proofs.Common.{◌++◌, Option, Some, None, map, append_assoc, arith, refl}
use Rattle.std.specs.Prelude.{slice_get, flat_map, filter_map, is_none, if◌then◌else◌}
use Rattle.std.specs.List.{AllByRecursion, enumerate_from, list_any}
use Rattle.std.specs.Option.{option_map, option_map_or, option_and_then, option_or}
use Rattle.std.specs.List.{cons_option}
use Rattle.std.proofs.lemmas.List.{map-append, append-nil}
use Rattle.policy_meaning.specs.LeafFact.{EachPair}
use Rattle.virtual_topology.specs.declared.fault.TopologyFault.{TopologyFault}
use Rattle.virtual_topology.specs.declared.plan.PairItem.{PairItem}
use Rattle.virtual_topology.specs.declared.plan.PortPlace.{PortPlace}
use Rattle.virtual_topology.specs.declared.plan.SwitchItem.{SwitchItem}
use Rattle.virtual_topology.specs.declared.plan.TopologyPlan.{TopologyPlan}
use Rattle.virtual_topology.specs.declared.plan.VirtualItem.{VirtualItem}
use Rattle.virtual_topology.specs.declared.plan.VirtualPort.{VirtualPort}
use Rattle.virtual_topology.specs.declared.uses.Role.{Role}
use Rattle.virtual_topology.specs.declared.uses.Role.TheVariants.{Physical, Virtual, Link}
use Rattle.virtual_topology.specs.Faults.{fault_of, twice_among, unknown_among, shape_among, mixed_among, crowded}
use Rattle.virtual_topology.specs.Faults.{first_again, first_answer, looped, is_loop, unlinked, misshapen, unlike_link}
use Rattle.virtual_topology.specs.Faults.{unknown_place, mixed_item}
use Rattle.virtual_topology.specs.Places.{PlaceUse, same_name, same_place, same_use, at_port, in_role, ends, pair_uses}
use Rattle.virtual_topology.specs.Places.{at_use, port_uses, item_uses, virtual_uses, uses}
use Rattle.virtual_topology.specs.Rows.{Spot, Row, rows, where_is}
use Rattle.virtual_topology.specs.Wires.{Joint, outside_row, item_joints, outside_among, outside_joints, both}
use Rattle.virtual_topology.specs.Wires.{pair_joint, joints_among, cable_joints, link_joints}
use Rattle.virtual_topology.proofs.Counted.{neither}
use Rattle.policy_setting.specs.Premises.{HaveNumbers}
use Rattle.policy_setting.proofs.Parts.{Part, none, keep, skip, part_both, part_self, pairs_part, pairs_more}
use Rattle.policy_setting.proofs.Parts.{pairs_first, pairs_second, pairs_across, all_part, all_first}
use Rattle.policy_setting.proofs.Spots.{IsPort, IsSwitchPort, IsVirtualPort, IsLinkPort, port_found, or_left_false}
use Rattle.policy_setting.proofs.Spots.{or_right_false}

-- two uses are of two places
abbrev pub Apart : PlaceUse → PlaceUse → Type 0
Apart a b = same_use b a ≡ false

-- no use is among those seen
none_such : (x : PlaceUse) (seen : List PlaceUse) → list_any (same_use x) seen ≡ false
    → AllByRecursion (λ y. Apart y x) seen
none_such x [] e = tt
none_such x (y ∷ ys) e = (
  or_left_false (same_use x y) (list_any (same_use x) ys) e,
  none_such x ys (or_right_false (same_use x y) (list_any (same_use x) ys) e),
)

again_next : (seen : List PlaceUse) (x : PlaceUse) (xs : List PlaceUse) (b : Bool) → list_any (same_use x) seen ≡ b
    → EachPair Apart seen → (if b then Some x else first_again same_use (seen ++ x ∷ []) xs) ≡ None
    → (EachPair Apart (seen ++ x ∷ []) → first_again same_use (seen ++ x ∷ []) xs ≡ None
    → EachPair Apart ((seen ++ x ∷ []) ++ xs)) → EachPair Apart (seen ++ x ∷ xs)
again_next seen x xs true t h e f = absurd (cc)
again_next seen x xs false t h e f = subst (EachPair Apart) (append_assoc seen (x ∷ []) xs)
    (f (pairs_more Apart seen x h (none_such x seen t)) e)

again_pairs : (seen us : List PlaceUse) → EachPair Apart seen → first_again same_use seen us ≡ None
    → EachPair Apart (seen ++ us)
again_pairs seen [] h e = subst (EachPair Apart) (sym (append-nil seen)) h
again_pairs seen (x ∷ xs) h e = again_next seen x xs (list_any (same_use x) seen) refl h e
    (λ k f. again_pairs (seen ++ x ∷ []) xs k f)

-- each kind of fault is missing
pub record Faultless (plan : TopologyPlan) : Type 0 where
  pub once : EachPair Apart (uses plan)
  pub known : AllByRecursion (λ u. unknown_place (rows plan) u ≡ None) (uses plan)
  pub cables : AllByRecursion (λ c. looped c ≡ None) plan.cables
  pub linked : AllByRecursion (λ r. unlinked (uses plan) r ≡ None) (rows plan)
  pub links : AllByRecursion (λ l. misshapen (rows plan) l ≡ None) plan.links
  pub unmixed : AllByRecursion (λ v. mixed_item (link_joints plan) (outside_joints plan) v ≡ None)
      (enumerate_from 0 plan.virtuals)

mapped_none : {A B : Type 0} (f : A → B) (o : Option A) → option_map f o ≡ None → o ≡ None
mapped_none f None e = refl
mapped_none f (Some x) e = absurd (cc)

pub answers_none : {A B : Type 0} (f : A → Option B) (xs : List A) → first_answer f xs ≡ None
    → AllByRecursion (λ x. f x ≡ None) xs
answers_none f [] e = tt
answers_none f (x ∷ xs) e = let h = neither (f x) (first_answer f xs) e in (h.0, answers_none f xs h.1)

pub faultless : (plan : TopologyPlan) → fault_of plan ≡ None → Faultless plan
faultless plan e =
    let a = neither (twice_among (uses plan)) _ e in
    let b = neither (unknown_among (rows plan) (uses plan)) _ a.1 in
    let c = neither (shape_among (rows plan) (uses plan) plan) _ b.1 in
    let d = neither (mixed_among (link_joints plan) (outside_joints plan) plan.virtuals) (crowded plan) c.1 in
    let f = neither (first_answer looped plan.cables) _ c.0 in
    let g = neither (first_answer (unlinked (uses plan)) (rows plan)) (first_answer (misshapen (rows plan)) plan.links)
    f.1 in
    record {
      once = again_pairs [] (uses plan) tt (mapped_none _ (first_again same_use [] (uses plan)) a.0);
      known = answers_none (unknown_place (rows plan)) (uses plan) b.0;
      cables = answers_none looped plan.cables f.0;
      linked = answers_none (unlinked (uses plan)) (rows plan) g.0;
      links = answers_none (misshapen (rows plan)) plan.links g.1;
      unmixed = answers_none (mixed_item (link_joints plan) (outside_joints plan)) (enumerate_from 0 plan.virtuals) d.0;
    }

-- the name of a switch by number, physical or virtual
abbrev pub switch_name : TopologyPlan → ℕ → List ℕ
switch_name plan i = option_map_or (λ (s : SwitchItem). s.name) (slice_get plan.switches i) []

abbrev pub virtual_name : TopologyPlan → ℕ → List ℕ
virtual_name plan v = option_map_or (λ (x : VirtualItem). x.name) (slice_get plan.virtuals v) []

-- the place of a port by numbers, in its role
abbrev pub place_at : TopologyPlan → Role → Spot → PortPlace
place_at plan Physical s = at_port (switch_name plan s.0) s.1
place_at plan Virtual s = at_port (virtual_name plan s.0) s.1
place_at plan Link s = at_port (virtual_name plan s.0) s.1

abbrev pub use_at : TopologyPlan → Role → Spot → PlaceUse
use_at plan role s = in_role role (place_at plan role s)

named_switch : (plan : TopologyPlan) (i n : ℕ) (s : SwitchItem) → slice_get plan.switches i ≡ Some s
    → at_port (switch_name plan i) n ≡ at_port s.name n
named_switch plan i n s e = ap (λ (o : Option SwitchItem). at_port (option_map_or (λ (s : SwitchItem). s.name) o []) n)
    e

named_virtual : (plan : TopologyPlan) (v n : ℕ) (x : VirtualItem) → slice_get plan.virtuals v ≡ Some x
    → at_port (virtual_name plan v) n ≡ at_port x.name n
named_virtual plan v n x e =
    ap (λ (o : Option VirtualItem). at_port (option_map_or (λ (x : VirtualItem). x.name) o []) n) e

port_place : (plan : TopologyPlan) (role : Role) (place : PortPlace) (s : Spot) → IsPort plan role place s
    → place_at plan role s ≡ place
port_place plan Physical place s h = named_switch plan s.0 s.1 h.switch h.there ∙ sym h.at
port_place plan Virtual place s h = named_virtual plan s.0 s.1 h.item h.there ∙ sym h.at
port_place plan Link place s h = named_virtual plan s.0 s.1 h.item h.there ∙ sym h.at

-- where a place is, its use is that of its numbers
pub use_found : (plan : TopologyPlan) → HaveNumbers plan.switches → (role : Role) (place : PortPlace) (s : Spot)
    → where_is (rows plan) role place ≡ Some s → use_at plan role s ≡ in_role role place
use_found plan h role place s e = ap (in_role role) (port_place plan role place s (port_found plan h role place s e))

-- parts of the uses: the physical ports that outside ports are
kept_as : {A : Type 0} (x y : A) (xs ys : List A) → x ≡ y → Part xs ys → Part (x ∷ xs) (y ∷ ys)
kept_as {A} x y xs ys e p = subst (λ (z : A). Part (z ∷ xs) (y ∷ ys)) (sym e) (keep y xs ys p)

-- what an outside port shows of itself is part of the uses of a port
pub record Shows (plan : TopologyPlan) (role : Role) (spot : Joint → Spot) : Type 0 where
  pub port : (v : ℕ) (name : List ℕ) (q : VirtualPort) (js : List Joint) (us : List PlaceUse)
      → virtual_name plan v ≡ name
      → Part (map (λ j. use_at plan role (spot j)) js) us
      → Part (map (λ j. use_at plan role (spot j)) (cons_option (outside_row (rows plan) v q) js))
      (port_uses name q ++ us)

ports_part : (plan : TopologyPlan) (role : Role) (spot : Joint → Spot) → Shows plan role spot
    → (v : ℕ) (name : List ℕ) (qs : List VirtualPort) → virtual_name plan v ≡ name
    → Part (map (λ j. use_at plan role (spot j)) (filter_map (outside_row (rows plan) v) qs))
    (flat_map (port_uses name) qs)
ports_part plan role spot h v name [] e = none []
ports_part plan role spot h v name (q ∷ qs) e =
    h.port v name q (filter_map (outside_row (rows plan) v) qs) (flat_map (port_uses name) qs) e
    (ports_part plan role spot h v name qs e)

items_part : (plan : TopologyPlan) (role : Role) (spot : Joint → Spot) → Shows plan role spot
    → (m : ℕ) (xs : List VirtualItem) → ((k : ℕ) → slice_get plan.virtuals (m + k) ≡ slice_get xs k)
    → Part (map (λ j. use_at plan role (spot j)) (flat_map (item_joints (rows plan)) (enumerate_from m xs)))
    (virtual_uses xs)
items_part plan role spot h m [] f = none []
items_part plan role spot h m (x ∷ xs) f =
    let g = λ (j : Joint). use_at plan role (spot j) in
    let p : m + 0 ≡ m = omega arith in
    let there : slice_get plan.virtuals m ≡ Some x = subst (λ (k : ℕ). slice_get plan.virtuals k ≡ Some x) p (f 0) in
    let named : virtual_name plan m ≡ x.name =
    ap (λ (o : Option VirtualItem). option_map_or (λ (x : VirtualItem). x.name) o []) there in
    let here = ports_part plan role spot h m x.name x.ports named in
    let rest = items_part plan role spot h (m + 1) xs (λ k. let q : m + suc k ≡ (m + 1) + k = omega arith in
    subst (λ (n : ℕ). slice_get plan.virtuals n ≡ slice_get xs k) q (f (suc k))) in
    subst (λ (us : List PlaceUse). Part us (virtual_uses (x ∷ xs)))
    (sym (map-append g (item_joints (rows plan) (m, x))
    (flat_map (item_joints (rows plan)) (enumerate_from (m + 1) xs))))
    (part_both (map g (flat_map (item_joints (rows plan)) (enumerate_from (m + 1) xs))) (virtual_uses xs) here rest)

pub outside_part : (plan : TopologyPlan) (role : Role) (spot : Joint → Spot) → Shows plan role spot
    → Part (map (λ j. use_at plan role (spot j)) (outside_joints plan)) (virtual_uses plan.virtuals)
outside_part plan role spot h = items_part plan role spot h 0 plan.virtuals
    (λ k. let p : k ≡ 0 + k = omega arith in sym (ap (slice_get plan.virtuals) p))

physical_place : (plan : TopologyPlan) → HaveNumbers plan.switches
    → (v port : ℕ) (place : PortPlace) (u : PlaceUse) (js : List Joint) (us : List PlaceUse) (o : Option Spot)
    → where_is (rows plan) Physical place ≡ o → Part (map (λ (j : Joint). use_at plan Physical j.1) js) us
    → Part (map (λ (j : Joint). use_at plan Physical j.1) (cons_option (option_map (λ s. ((v, port), s)) o) js))
    (u ∷ in_role Physical place ∷ us)
physical_place plan h v port place u js us None e p = skip u _ _ (skip (in_role Physical place) _ us p)
physical_place plan h v port place u js us (Some s) e p =
    skip u _ _ (kept_as (use_at plan Physical s) (in_role Physical place) _ us (use_found plan h Physical place s e) p)

-- the physical port of an outside port
physical_port : (plan : TopologyPlan) → HaveNumbers plan.switches
    → (v port : ℕ) (at : Option PortPlace) (u : PlaceUse) (js : List Joint) (us : List PlaceUse)
    → Part (map (λ (j : Joint). use_at plan Physical j.1) js) us
    → Part (map (λ (j : Joint). use_at plan Physical j.1)
    (cons_option (option_map (λ s. ((v, port), s)) (option_and_then (where_is (rows plan) Physical) at)) js))
    ((u ∷ at_use at) ++ us)
physical_port plan h v port None u js us p = skip u _ us p
physical_port plan h v port (Some place) u js us p =
    physical_place plan h v port place u js us (where_is (rows plan) Physical place) refl p

pub physical_shows : (plan : TopologyPlan) → HaveNumbers plan.switches → Shows plan Physical (λ j. j.1)
physical_shows plan h =
    record {
      port = λ v name q js us e p. physical_port plan h v q.port q.at (in_role Virtual (at_port name q.port)) js
          us p;
    }

-- the port itself
virtual_port : (plan : TopologyPlan) (v port : ℕ) (name : List ℕ) (at : Option PortPlace) (o : Option Spot)
    (js : List Joint) (us : List PlaceUse) → virtual_name plan v ≡ name
    → Part (map (λ (j : Joint). use_at plan Virtual j.0) js) us
    → Part (map (λ (j : Joint). use_at plan Virtual j.0) (cons_option (option_map (λ s. ((v, port), s)) o) js))
    ((in_role Virtual (at_port name port) ∷ at_use at) ++ us)
virtual_port plan v port name None None js us e p = skip _ _ us p
virtual_port plan v port name None (Some s) js us e p =
    kept_as _ _ _ us (ap (λ (n : List ℕ). in_role Virtual (at_port n port)) e) p
virtual_port plan v port name (Some place) None js us e p = skip _ _ _ (skip _ _ us p)
virtual_port plan v port name (Some place) (Some s) js us e p =
    kept_as _ _ _ _ (ap (λ (n : List ℕ). in_role Virtual (at_port n port)) e) (skip _ _ us p)

pub virtual_shows : (plan : TopologyPlan) → Shows plan Virtual (λ j. j.0)
virtual_shows plan =
    record {
      port = λ v name q js us e p. virtual_port plan v q.port name q.at
          (option_and_then (where_is (rows plan) Physical) q.at) js us e p;
    }

-- the ends of joints
abbrev pub joint_ends : List Joint → List Spot
joint_ends js = flat_map (λ (j : Joint). j.0 ∷ j.1 ∷ []) js

pair_kept : (plan : TopologyPlan) → HaveNumbers plan.switches → (role : Role) (pair : PairItem) (a b : Option Spot)
    → where_is (rows plan) role pair.a ≡ a → where_is (rows plan) role pair.b ≡ b
    → (js : List Joint) (us : List PlaceUse) → Part (map (use_at plan role) (joint_ends js)) us
    → Part (map (use_at plan role) (joint_ends (cons_option (both a b) js)))
    (in_role role pair.a ∷ in_role role pair.b ∷ us)
pair_kept plan h role pair (Some s) (Some t) e f js us p =
    kept_as (use_at plan role s) (in_role role pair.a) _ _ (use_found plan h role pair.a s e)
    (kept_as (use_at plan role t) (in_role role pair.b) _ us (use_found plan h role pair.b t f) p)
pair_kept plan h role pair (Some s) None e f js us p = skip _ _ _ (skip _ _ us p)
pair_kept plan h role pair None b e f js us p = skip _ _ _ (skip _ _ us p)

pair_part : (plan : TopologyPlan) → HaveNumbers plan.switches → (role : Role) (pair : PairItem) (a b : Option Spot)
    → where_is (rows plan) role pair.a ≡ a → where_is (rows plan) role pair.b ≡ b → same_place pair.a pair.b ≡ false
    → (js : List Joint) (us : List PlaceUse) → Part (map (use_at plan role) (joint_ends js)) us
    → Part (map (use_at plan role) (joint_ends (cons_option (both a b) js))) (ends role pair ++ us)
pair_part plan h role pair a b e f d js us p =
    subst (λ (t : Bool). Part (map (use_at plan role) (joint_ends (cons_option (both a b) js)))
    ((in_role role pair.a ∷ (if t then [] else in_role role pair.b ∷ [])) ++ us)) (sym d)
    (pair_kept plan h role pair a b e f js us p)

unlike_names : (b c : Bool) (f : TopologyFault) → (if b then Some f else None) ≡ None → b && c ≡ false
unlike_names true c f e = absurd (cc)
unlike_names false c f e = refl

unlike_ends : (pair : PairItem) → looped pair ≡ None → same_place pair.a pair.b ≡ false
unlike_ends pair e = unlike_names (same_name pair.a.name pair.b.name) (pair.a.port == pair.b.port) _ e

pub pairs_ends : (plan : TopologyPlan) → HaveNumbers plan.switches → (role : Role) (pairs : List PairItem)
    → AllByRecursion (λ c. looped c ≡ None) pairs
    → Part (map (use_at plan role) (joint_ends (joints_among (rows plan) role pairs))) (pair_uses role pairs)
pairs_ends plan h role [] k = none []
pairs_ends plan h role (pair ∷ pairs) k =
    pair_part plan h role pair (where_is (rows plan) role pair.a) (where_is (rows plan) role pair.b) refl refl
    (unlike_ends pair k.0) (joints_among (rows plan) role pairs) (pair_uses role pairs)
    (pairs_ends plan h role pairs k.1)
