-- Virtual switches that links join.
use Rattle.std.proofs.Common.{◌≡◌, ◌∙◌, sym, ap, subst, ℕ, suc, ◌+◌, ◌==◌, ◌&&◌, ◌||◌, not, Bool, true, false, cond}
use Rattle.std.proofs.Common.{List, [], ◌∷◌, ◌++◌, Option, Some, None, map, arith, refl}
use Rattle.std.specs.Prelude.{slice_get, flat_map, filter_map, filter, find, is_some, is_none, if◌then◌else◌}
use Rattle.std.specs.List.{AllByRecursion, cons_option, enumerate_from, list_any}
use Rattle.std.specs.Map.{lookup}
use Rattle.std.specs.Option.{option_map, option_map_or, option_and_then}
use Rattle.std.proofs.lemmas.Bool.{eqb-true, eq-eqb}
use Rattle.policy_expr.specs.Policy.{Policy}
use Rattle.policy_meaning.proofs.Booleans.{split_and, join_and, fails, some_injective, not_false, split_or, or_right}
use Rattle.policy_meaning.specs.Hops.{peer_of as peer_in}
use Rattle.policy_meaning.specs.Leaf.{has_port}
use Rattle.policy_meaning.specs.Networks.{ports_of, switch_has, switch_links, switch_spread}
use Rattle.policy_meaning.specs.Switches.{SwitchOf}
use Rattle.policy_meaning.specs.declared.network.Link.{Link}
use Rattle.policy_meaning.specs.declared.network.Place.{Place}
use Rattle.virtual_topology.specs.declared.plan.PortPlace.{PortPlace}
use Rattle.virtual_topology.specs.declared.plan.TopologyPlan.{TopologyPlan}
use Rattle.virtual_topology.specs.declared.plan.VirtualItem.{VirtualItem}
use Rattle.virtual_topology.specs.declared.plan.VirtualPort.{VirtualPort}
use Rattle.virtual_topology.specs.declared.uses.Role.TheVariants as roles
use Rattle.virtual_topology.specs.Faults.{are_joined, ends_at, is_mixed, mixed_item}
use Rattle.virtual_topology.specs.Rows.{Spot, rows, same_spot, where_is}
use Rattle.virtual_topology.specs.Wires.{Joint, both_ways, item_joints, outside_row, outside_joints, link_joints}
use Rattle.virtual_topology.specs.Wires.{peer_of, lie_apart, lies_off, is_spread_of}
use Rattle.virtual_topology.specs.Within.{merged}
use Rattle.virtual_topology.proofs.Groups.{merged_same}
use Rattle.policy_setting.specs.Networks.{link, place, virtual_switch}
use Rattle.policy_setting.specs.Premises.{HaveNumbers}
use Rattle.policy_setting.specs.Settings.{expr_at, holds_at, switches}
use Rattle.policy_setting.proofs.Parts.{Part, none, keep, skip, part_later, part_both, part_self, all_weaker}
use Rattle.policy_setting.proofs.Parts.{all_of_two, all_part, all_joined, all_both, numbered, all_numbered}
use Rattle.policy_setting.proofs.Spots.{IsLinkPort, has_link, port_found}
use Rattle.policy_setting.proofs.Apart.{Faultless, joint_ends}
use Rattle.policy_setting.proofs.Joints.{IsOutside, outside_are, EndsAre, pair_ends_are, all_filtered}
use Rattle.policy_setting.proofs.Placing.{switch_at}

-- a number that virtual switches have in common exactly where links join them
abbrev pub group : List Joint → ℕ → ℕ
group [] v = v
group (l ∷ ls) v = merged (group ls l.0.0) (group ls l.1.0) (group ls v)

pub joined_group : (ls : List Joint) (v u : ℕ) → are_joined ls v u ≡ (group ls v == group ls u)
joined_group [] v u = refl
joined_group (l ∷ ls) v u =
    (λ i. joined_group ls v u i ||
    ((joined_group ls v l.0.0 i && joined_group ls l.1.0 u i) ||
    (joined_group ls v l.1.0 i && joined_group ls l.0.0 u i)))
    ∙ sym (merged_same (group ls l.0.0) (group ls l.1.0) (group ls v) (group ls u))

to_self : (p q : ℕ) (b : Bool) → q ≡ (if b then q else q)
to_self p q true = refl
to_self p q false = refl

merged_from : (p q : ℕ) → merged p q p ≡ merged p q q
merged_from p q = rw (eq-eqb p p refl) (to_self p q (q == p))

pub ends_joined : (ls : List Joint) → AllByRecursion (λ (l : Joint). group ls l.0.0 ≡ group ls l.1.0) ls
ends_joined [] = tt
ends_joined (l ∷ ls) = (
  merged_from (group ls l.0.0) (group ls l.1.0),
  all_weaker (λ (k : Joint). group ls k.0.0 ≡ group ls k.1.0)
      (λ (k : Joint). group (l ∷ ls) k.0.0 ≡ group (l ∷ ls) k.1.0)
      (λ k e. ap (merged (group ls l.0.0) (group ls l.1.0)) e) ls (ends_joined ls),
)

pub group_joined : (ls : List Joint) (v u : ℕ) → group ls v ≡ group ls u → are_joined ls v u ≡ true
group_joined ls v u e = joined_group ls v u ∙ eq-eqb (group ls v) (group ls u) e

-- what is found among ways
way_next : (Q : Spot → Spot → Type 0) (k s : Spot) (w : Joint) (b : Bool) (rest : Option Spot) → same_spot k w.0 ≡ b
    → Q w.0 w.1 → cond b (Some w.1) rest ≡ Some s → (rest ≡ Some s → Q k s) → Q k s
way_next Q k s w true rest t q e f =
    let p = split_and (k.0 == w.0.0) (k.1 == w.0.1) t in
    let same : w.0 ≡ k = λ i. (sym (eqb-true k.0 w.0.0 p.0) i, sym (eqb-true k.1 w.0.1 p.1) i) in
    let other : w.1 ≡ s = some_injective e in
    subst (λ (z : Spot). Q k z) other (subst (λ (z : Spot). Q z w.1) same q)
way_next Q k s w false rest t q e f = f e

pub way_found : (Q : Spot → Spot → Type 0) (ws : List Joint) (k s : Spot) → AllByRecursion (λ (w : Joint). Q w.0 w.1) ws
    → lookup (same_spot k) ws ≡ Some s → Q k s
way_found Q [] k s h e = absurd (cc)
way_found Q (w ∷ ws) k s h e = way_next Q k s w (same_spot k w.0) (lookup (same_spot k) ws) refl h.0 e
    (λ f. way_found Q ws k s h.1 f)

pub ways_all : (Q : Spot → Spot → Type 0) (js : List Joint) → AllByRecursion (λ (j : Joint). Q j.0 j.1) js
    → AllByRecursion (λ (j : Joint). Q j.1 j.0) js → AllByRecursion (λ (w : Joint). Q w.0 w.1) (both_ways js)
ways_all Q [] h k = tt
ways_all Q (j ∷ js) h k = (h.0, (k.0, ways_all Q js h.1 k.1))

-- a key of ways is an end of a joint
end_next : (k : Spot) (ws : List Joint) (w : Joint) (b : Bool) (s : Spot)
    → cond b (Some w.1) (lookup (same_spot k) ws) ≡ Some s
    → (lookup (same_spot k) ws ≡ Some s → list_any (λ (w : Joint). same_spot k w.0) ws ≡ true)
    → b || list_any (λ (w : Joint). same_spot k w.0) ws ≡ true
end_next k ws w true s e f = refl
end_next k ws w false s e f = f e

pub key_listed : (k s : Spot) (ws : List Joint) → lookup (same_spot k) ws ≡ Some s
    → list_any (λ (w : Joint). same_spot k w.0) ws ≡ true
key_listed k s [] e = absurd (cc)
key_listed k s (w ∷ ws) e = end_next k ws w (same_spot k w.0) s e (λ f. key_listed k s ws f)

listed_next : (k : Spot) (ws : List Joint) (w : Joint) (b : Bool)
    → b || list_any (λ (w : Joint). same_spot k w.0) ws ≡ true
    → (list_any (λ (w : Joint). same_spot k w.0) ws ≡ true → is_some (lookup (same_spot k) ws) ≡ true)
    → is_some (cond b (Some w.1) (lookup (same_spot k) ws)) ≡ true
listed_next k ws w true e f = refl
listed_next k ws w false e f = f e

pub listed_key : (k : Spot) (ws : List Joint) → list_any (λ (w : Joint). same_spot k w.0) ws ≡ true
    → is_some (lookup (same_spot k) ws) ≡ true
listed_key k [] e = absurd (cc)
listed_key k (w ∷ ws) e = listed_next k ws w (same_spot k w.0) e (λ f. listed_key k ws f)

pub same_self : (k : Spot) → same_spot k k ≡ true
same_self k = join_and (k.0 == k.0) (k.1 == k.1) (eq-eqb k.0 k.0 refl) (eq-eqb k.1 k.1 refl)

or_left : (a b : Bool) → a ≡ true → a || b ≡ true
or_left true b e = refl
or_left false b e = absurd (cc)

-- both ends of each joint are keys of its ways
both_listed : (js : List Joint)
    → AllByRecursion (λ (j : Joint). (list_any (λ (w : Joint). same_spot j.0 w.0) (both_ways js) ≡ true)
    × (list_any (λ (w : Joint). same_spot j.1 w.0) (both_ways js) ≡ true)) js
both_listed [] = tt
both_listed (j ∷ js) = (
  (
    or_left (same_spot j.0 j.0) _ (same_self j.0),
    or_right (same_spot j.1 j.0) _
        (or_left (same_spot j.1 j.1) _ (same_self j.1)),
  ),
  all_weaker (λ (k : Joint). (list_any (λ (w : Joint). same_spot k.0 w.0) (both_ways js) ≡ true)
      × (list_any (λ (w : Joint). same_spot k.1 w.0) (both_ways js) ≡ true))
      (λ (k : Joint). (list_any (λ (w : Joint). same_spot k.0 w.0) (both_ways (j ∷ js)) ≡ true)
      × (list_any (λ (w : Joint). same_spot k.1 w.0) (both_ways (j ∷ js)) ≡ true))
      (λ k h. (
        or_right (same_spot k.0 j.0) _ (or_right (same_spot k.0 j.1) _ h.0),
        or_right (same_spot k.1 j.0) _ (or_right (same_spot k.1 j.1) _ h.1),
      )) js (both_listed js),
)

-- virtual switches at the ends of links
ends_here : (js : List Joint)
    → AllByRecursion (λ (j : Joint). (list_any (ends_at j.0.0) js ≡ true) × (list_any (ends_at j.1.0) js ≡ true)) js
ends_here [] = tt
ends_here (j ∷ js) = (
  (
    or_left ((j.0.0 == j.0.0) || (j.1.0 == j.0.0)) _ (or_left (j.0.0 == j.0.0) _ (eq-eqb j.0.0 j.0.0 refl)),
    or_left ((j.0.0 == j.1.0) || (j.1.0 == j.1.0)) _ (or_right (j.0.0 == j.1.0) _ (eq-eqb j.1.0 j.1.0 refl)),
  ),
  all_weaker (λ (k : Joint). (list_any (ends_at k.0.0) js ≡ true) × (list_any (ends_at k.1.0) js ≡ true))
      (λ (k : Joint). (list_any (ends_at k.0.0) (j ∷ js) ≡ true) × (list_any (ends_at k.1.0) (j ∷ js) ≡ true))
      (λ k h. (or_right (ends_at k.0.0 j) _ h.0, or_right (ends_at k.1.0 j) _ h.1)) js (ends_here js),
)

-- a link port of a virtual switch that is there
pub record HasLinkPort (plan : TopologyPlan) (s : Spot) : Type 0 where
  pub item : VirtualItem
  pub there : slice_get plan.virtuals s.0 ≡ Some item
  pub listed : list_any (has_link s.1) item.ports ≡ true

-- what is known of where a link leads from a port, and to
pub record IsWay (plan : TopologyPlan) (s t : Spot) : Type 0 where
  pub joined : group (link_joints plan) s.0 ≡ group (link_joints plan) t.0
  pub from_ends : list_any (ends_at s.0) (link_joints plan) ≡ true
  pub to_ends : list_any (ends_at t.0) (link_joints plan) ≡ true
  pub from : HasLinkPort plan s
  pub to : HasLinkPort plan t
  pub back : is_some (peer_of plan t.0 t.1) ≡ true

link_ports : (plan : TopologyPlan) → HaveNumbers plan.switches
    → AllByRecursion (EndsAre (HasLinkPort plan)) (link_joints plan)
link_ports plan h = pair_ends_are plan h roles.Link (HasLinkPort plan)
    (λ p s w. let k = port_found plan h roles.Link p s w in
    record { item = k.item; there = k.there; listed = k.listed }) plan.links

record IsLink (plan : TopologyPlan) (j : Joint) : Type 0 where
  joined : group (link_joints plan) j.0.0 ≡ group (link_joints plan) j.1.0
  ends : (list_any (ends_at j.0.0) (link_joints plan) ≡ true) × (list_any (ends_at j.1.0) (link_joints plan) ≡ true)
  keys : (list_any (λ (w : Joint). same_spot j.0 w.0) (both_ways (link_joints plan)) ≡ true)
      × (list_any (λ (w : Joint). same_spot j.1 w.0) (both_ways (link_joints plan)) ≡ true)
  ports : EndsAre (HasLinkPort plan) j

all_four : {A : Type 0} (P Q S T U : A → Type 0) → ((x : A) → P x → Q x → S x → T x → U x) → (xs : List A)
    → AllByRecursion P xs → AllByRecursion Q xs → AllByRecursion S xs → AllByRecursion T xs → AllByRecursion U xs
all_four P Q S T U f [] a b c d = tt
all_four P Q S T U f (x ∷ xs) a b c d = (f x a.0 b.0 c.0 d.0, all_four P Q S T U f xs a.1 b.1 c.1 d.1)

links_are : (plan : TopologyPlan) → HaveNumbers plan.switches → AllByRecursion (IsLink plan) (link_joints plan)
links_are plan h =
    all_four (λ (j : Joint). group (link_joints plan) j.0.0 ≡ group (link_joints plan) j.1.0)
    (λ (j : Joint). (list_any (ends_at j.0.0) (link_joints plan) ≡ true)
    × (list_any (ends_at j.1.0) (link_joints plan) ≡ true))
    (λ (j : Joint). (list_any (λ (w : Joint). same_spot j.0 w.0) (both_ways (link_joints plan)) ≡ true)
    × (list_any (λ (w : Joint). same_spot j.1 w.0) (both_ways (link_joints plan)) ≡ true))
    (EndsAre (HasLinkPort plan)) (IsLink plan)
    (λ j a b c d. record { joined = a; ends = b; keys = c; ports = d }) (link_joints plan)
    (ends_joined (link_joints plan)) (ends_here (link_joints plan)) (both_listed (link_joints plan))
    (link_ports plan h)

pub ways_are : (plan : TopologyPlan) → HaveNumbers plan.switches
    → AllByRecursion (λ (w : Joint). IsWay plan w.0 w.1) (both_ways (link_joints plan))
ways_are plan h = ways_all (IsWay plan) (link_joints plan)
    (all_weaker (IsLink plan) (λ (j : Joint). IsWay plan j.0 j.1)
    (λ j k. record {
      joined = k.joined;
      from_ends = k.ends.0;
      to_ends = k.ends.1;
      from = k.ports.one;
      to = k.ports.other;
      back = listed_key j.1 (both_ways (link_joints plan)) k.keys.1;
    }) (link_joints plan)
    (links_are plan h))
    (all_weaker (IsLink plan) (λ (j : Joint). IsWay plan j.1 j.0)
    (λ j k. record {
      joined = sym k.joined;
      from_ends = k.ends.1;
      to_ends = k.ends.0;
      from = k.ports.other;
      to = k.ports.one;
      back = listed_key j.0 (both_ways (link_joints plan)) k.keys.0;
    }) (link_joints plan)
    (links_are plan h))

pub way_is : (plan : TopologyPlan) → HaveNumbers plan.switches → (v p : ℕ) (s : Spot) → peer_of plan v p ≡ Some s
    → IsWay plan (v, p) s
way_is plan h v p s e = way_found (IsWay plan) (both_ways (link_joints plan)) (v, p) s (ways_are plan h) e

leads_by : (plan : TopologyPlan) (v : ℕ) (q : VirtualPort) (l : Link) (o : Option Spot) → peer_of plan v q.port ≡ o
    → option_map (λ s. record { port = q.port; peer = place s }) o ≡ Some l
    → peer_of plan v l.port ≡ Some (l.peer.v, l.peer.port)
leads_by plan v q l None t e = absurd (cc)
leads_by plan v q l (Some s) t e =
    let same : record { port = q.port; peer = place s } ≡ l = some_injective e in
    subst (λ (l : Link). peer_of plan v l.port ≡ Some (l.peer.v, l.peer.port)) same t

-- the links of a virtual switch lead where those of the plan do
link_leads : (plan : TopologyPlan) (v : ℕ) (qs : List VirtualPort)
    → AllByRecursion (λ (l : Link). peer_of plan v l.port ≡ Some (l.peer.v, l.peer.port)) (filter_map (link plan v) qs)
link_leads plan v qs = all_filtered (link plan v) (λ (l : Link). peer_of plan v l.port ≡ Some (l.peer.v, l.peer.port))
    (λ q l e. leads_by plan v q l (peer_of plan v q.port) refl e) qs

peer_next : (P : ℕ → Place → Type 0) (l : Link) (p : ℕ) (q : Place) (b : Bool) (rest : Option Place) → (l.port == p) ≡ b
    → P l.port l.peer → (if b then Some l.peer else rest) ≡ Some q → (rest ≡ Some q → P p q) → P p q
peer_next P l p q true rest t k e f = subst (λ (z : Place). P p z) (some_injective e)
    (subst (λ (n : ℕ). P n l.peer) (eqb-true l.port p t) k)
peer_next P l p q false rest t k e f = f e

pub peer_found : (P : ℕ → Place → Type 0) (ls : List Link) (p : ℕ) (q : Place)
    → AllByRecursion (λ (l : Link). P l.port l.peer) ls → peer_in ls p ≡ Some q → P p q
peer_found P [] p q h e = absurd (cc)
peer_found P (l ∷ ls) p q h e = peer_next P l p q (l.port == p) (peer_in ls p) refl h.0 e
    (λ f. peer_found P ls p q h.1 f)

peer_by : (plan : TopologyPlan) (exprs : List Policy) (seen : List Bool) (v p : ℕ) (q : Place) (o : Option VirtualItem)
    → peer_in
    (switch_links (option_map (λ (x : VirtualItem). virtual_switch plan (expr_at exprs v) (holds_at seen v) (v, x)) o))
    p ≡ Some q → peer_of plan v p ≡ Some (q.v, q.port)
peer_by plan exprs seen v p q None e = absurd (cc)
peer_by plan exprs seen v p q (Some x) e =
    peer_found (λ p (q : Place). peer_of plan v p ≡ Some (q.v, q.port)) (filter_map (link plan v) x.ports) p q
    (link_leads plan v x.ports) e

pub link_peer : (plan : TopologyPlan) (exprs : List Policy) (seen : List Bool) (v p : ℕ) (q : Place)
    → peer_in (switch_links (slice_get (switches plan exprs seen) v)) p ≡ Some q → peer_of plan v p ≡ Some (q.v, q.port)
link_peer plan exprs seen v p q e = peer_by plan exprs seen v p q (slice_get plan.virtuals v)
    (sym (ap (λ (o : Option SwitchOf). peer_in (switch_links o) p) (switch_at plan exprs seen v)) ∙ e)
