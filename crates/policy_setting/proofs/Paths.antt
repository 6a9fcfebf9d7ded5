-- Paths of cables: those that are looked for among the ways of a plan are those of its wiring.
use Rattle.std.proofs.Common.{◌≡◌, ◌≢◌, ◌∙◌, sym, ap, subst, ℕ, zero, suc, ◌+◌, ◌<◌, ◌≤◌, ◌==◌, ◌&&◌, ◌||◌, Bool, true}
use Rattle.std.proofs.Common.{false, cond, List, [], ◌∷◌, length, Option, Some, None, map, inl, inr, ◌⊎◌, arith, refl}
use Rattle.std.specs.Prelude.{slice_get, if◌then◌else◌}
use Rattle.std.specs.List.{AllByRecursion, list_any, range_with_len}
use Rattle.std.specs.Option.{option_or}
use Rattle.std.proofs.lemmas.Bool.{eqb-true, eq-eqb, cases_eq, cases_lt}
use Rattle.std.proofs.lemmas.Option.{slice_get_within}
use Rattle.agreement.specs.Ways.{ByCable, HasPath, IsDistance}
use Rattle.agreement.proofs.Ways.{no-more}
use Rattle.policy_meaning.proofs.Booleans.{split_and, join_and, fails, some_injective, or_right, split_or}
use Rattle.policy_meaning.specs.LeafFact.{EachPair}
use Rattle.switch_meaning.specs.Wirings.{other_end, far_end, same_spot as same_port}
use Rattle.switch_meaning.specs.declared.wiring.SwitchPort.{SwitchPort}
use Rattle.switch_meaning.specs.declared.wiring.Wiring.{Wiring}
use Rattle.inner_paths.specs.Distances.{ways_of, has_path, distance_within, distance}
use Rattle.inner_paths.proofs.Rows.{range_long}
use Rattle.virtual_topology.specs.declared.plan.TopologyPlan.{TopologyPlan}
use Rattle.virtual_topology.specs.declared.uses.Role.TheVariants as roles
use Rattle.virtual_topology.specs.Rows.{Spot}
use Rattle.virtual_topology.specs.Wires.{Joint, both_ways, cable_joints}
use Rattle.policy_setting.specs.Premises.{HaveNumbers}
use Rattle.policy_setting.specs.Wirings.{switch_port, cable, wiring}
use Rattle.policy_setting.proofs.Parts.{all_weaker, all_of_two}
use Rattle.policy_setting.proofs.Spots.{port_found}
use Rattle.policy_setting.proofs.Apart.{Faultless, joint_ends}
use Rattle.policy_setting.proofs.Joints.{Differ, EndsAre, pair_ends_are, cables_once}
use Rattle.policy_setting.proofs.Linked.{ways_all}
use Rattle.policy_setting.proofs.Placing.{unlike_ports}

-- a way of the plan is the far end of a cable
ends_keys : (P : Spot → Type 0) (js : List Joint) → AllByRecursion P (joint_ends js)
    → AllByRecursion (λ (w : Joint). P w.0) (both_ways js)
ends_keys P [] h = tt
ends_keys P (j ∷ js) h = (h.0, (h.1.0, ends_keys P js h.1.1))

port_self : (s : Spot) → same_port (switch_port s) (switch_port s) ≡ true
port_self s = join_and (s.0 == s.0) (s.1 == s.1) (eq-eqb s.0 s.0 refl) (eq-eqb s.1 s.1 refl)

abbrev IsFar : List Joint → Joint → Type 0
IsFar js w = other_end (map cable js) (switch_port w.0) ≡ Some (switch_port w.1)

far_later : (j : Joint) (js : List Joint) (w : Joint) → Differ j.0 w.0 → Differ j.1 w.0 → IsFar js w → IsFar (j ∷ js) w
far_later j js w a b e =
    let first = unlike_ports w.0 j.0 (λ k. a (sym k)) in
    let second = unlike_ports w.0 j.1 (λ k. b (sym k)) in
    rw (first, second) e

far_here : (j : Joint) (js : List Joint) → IsFar (j ∷ js) j
far_here j js = rw (port_self j.0) refl

far_back : (j : Joint) (js : List Joint) → Differ j.0 j.1 → IsFar (j ∷ js) (j.1, j.0)
far_back j js d = let first = unlike_ports j.1 j.0 (λ k. d (sym k)) in rw (first, port_self j.1) refl

all_three : {A : Type 0} (P Q S T : A → Type 0) → ((x : A) → P x → Q x → S x → T x) → (xs : List A)
    → AllByRecursion P xs → AllByRecursion Q xs → AllByRecursion S xs → AllByRecursion T xs
all_three P Q S T f [] a b c = tt
all_three P Q S T f (x ∷ xs) a b c = (f x a.0 b.0 c.0, all_three P Q S T f xs a.1 b.1 c.1)

far_all : (js : List Joint) → EachPair (Differ {A = Spot}) (joint_ends js) → AllByRecursion (IsFar js) (both_ways js)
far_all [] h = tt
far_all (j ∷ js) h = (
  far_here j js,
  (
    far_back j js h.0.0,
    all_three (λ (w : Joint). Differ j.0 w.0) (λ (w : Joint). Differ j.1 w.0) (IsFar js) (IsFar (j ∷ js))
        (λ w a b e. far_later j js w a b e) (both_ways js) (ends_keys (Differ j.0) js h.0.1)
        (ends_keys (Differ j.1) js h.1.0) (far_all js h.1.1),
  ),
)

pub ways_far : (plan : TopologyPlan) → HaveNumbers plan.switches → Faultless plan
    → AllByRecursion (λ (w : Joint). far_end (wiring plan) (switch_port w.0) ≡ Some (switch_port w.1)) (ways_of plan)
ways_far plan h f = far_all (cable_joints plan) (cables_once plan h f)

-- and each far end is that of a way
port_is : (s : Spot) (a : SwitchPort) → same_port (switch_port s) a ≡ true → switch_port s ≡ a
port_is s a e = let p = split_and (s.0 == a.switch) (s.1 == a.port) e in
    λ i. record { switch = eqb-true s.0 a.switch p.0 i; port = eqb-true s.1 a.port p.1 i }

end_by : (Q : SwitchPort → SwitchPort → Type 0) (j : Joint) (rest : Option SwitchPort) (a b : SwitchPort) (s t : Bool)
    → same_port (switch_port j.0) a ≡ s → same_port (switch_port j.1) a ≡ t → Q (switch_port j.0) (switch_port j.1)
    → Q (switch_port j.1) (switch_port j.0)
    → (if s then Some (switch_port j.1) else (if t then Some (switch_port j.0) else rest)) ≡ Some b
    → (rest ≡ Some b → Q a b) → Q a b
end_by Q j rest a b true t e f p q g k = subst (λ (z : SwitchPort). Q a z) (some_injective g)
    (subst (λ (z : SwitchPort). Q z (switch_port j.1)) (port_is j.0 a e) p)
end_by Q j rest a b false true e f p q g k =
    subst (λ (z : SwitchPort). Q a z) (some_injective g)
    (subst (λ (z : SwitchPort). Q z (switch_port j.0)) (port_is j.1 a f) q)
end_by Q j rest a b false false e f p q g k = k g

pub end_found : (Q : SwitchPort → SwitchPort → Type 0) (js : List Joint) (a b : SwitchPort)
    → AllByRecursion (λ (w : Joint). Q (switch_port w.0) (switch_port w.1)) (both_ways js)
    → other_end (map cable js) a ≡ Some b → Q a b
end_found Q [] a b h e = absurd (cc)
end_found Q (j ∷ js) a b h e = end_by Q j (other_end (map cable js) a) a b (same_port (switch_port j.0) a)
    (same_port (switch_port j.1) a) refl refl h.0 h.1.0 e (λ k. end_found Q js a b h.1.1 k)

-- the ends of cables: they are at switches that are there, and have numbers of ports
pub record IsEnd (plan : TopologyPlan) (s : Spot) : Type 0 where
  pub there : s.0 < length plan.switches
  pub number : s.1 < 65280

pub cable_ends_are : (plan : TopologyPlan) → HaveNumbers plan.switches
    → AllByRecursion (EndsAre (IsEnd plan)) (cable_joints plan)
cable_ends_are plan h = pair_ends_are plan h roles.Physical (IsEnd plan)
    (λ p s w. let k = port_found plan h roles.Physical p s w in
    record { there = slice_get_within plan.switches s.0 k.switch k.there; number = k.number }) plan.cables

pub ways_ends : (plan : TopologyPlan) → HaveNumbers plan.switches
    → AllByRecursion (λ (w : Joint). IsEnd plan w.0 × IsEnd plan w.1) (ways_of plan)
ways_ends plan h = ways_all (λ s t. IsEnd plan s × IsEnd plan t) (cable_joints plan)
    (all_weaker (EndsAre (IsEnd plan)) (λ (j : Joint). IsEnd plan j.0 × IsEnd plan j.1) (λ j k. (k.one, k.other))
    (cable_joints plan) (cable_ends_are plan h))
    (all_weaker (EndsAre (IsEnd plan)) (λ (j : Joint). IsEnd plan j.1 × IsEnd plan j.0) (λ j k. (k.other, k.one))
    (cable_joints plan) (cable_ends_are plan h))

pub far_there : (plan : TopologyPlan) → HaveNumbers plan.switches → (a b : SwitchPort)
    → far_end (wiring plan) a ≡ Some b → b.switch < length plan.switches
far_there plan h a b e = end_found (λ a b. b.switch < length plan.switches) (cable_joints plan) a b
    (all_weaker (λ (w : Joint). IsEnd plan w.0 × IsEnd plan w.1) (λ (w : Joint). w.1.0 < length plan.switches)
    (λ w k. k.1.there) (ways_of plan) (ways_ends plan h)) e

-- an item that passes
record Passing {A : Type 0} (P : A → Type 0) (t : A → Bool) : Type 0 where
  item : A
  has : P item
  passes : t item ≡ true

passing_next : {A : Type 0} (P : A → Type 0) (t : A → Bool) (x : A) (b c : Bool) → t x ≡ b → b || c ≡ true → P x
    → (c ≡ true → Passing P t) → Passing P t
passing_next P t x true c e f p g = record { item = x; has = p; passes = e }
passing_next P t x false c e f p g = g f

passing : {A : Type 0} (P : A → Type 0) (t : A → Bool) (xs : List A) → AllByRecursion P xs → list_any t xs ≡ true
    → Passing P t
passing P t [] h e = absurd (cc)
passing P t (x ∷ xs) h e = passing_next P t x (t x) (list_any t xs) refl e h.0 (λ f. passing P t xs h.1 f)

-- an item passes its own test
first_of_two : (a b : Bool) → a ≡ true → a || b ≡ true
first_of_two true b e = refl
first_of_two false b e = absurd (cc)

all_own : {A : Type 0} (r : A → A → Bool) (xs : List A)
    → AllByRecursion (λ x. r x x ≡ true → list_any (r x) xs ≡ true) xs
all_own r [] = tt
all_own r (x ∷ xs) = (
  (λ e. first_of_two (r x x) (list_any (r x) xs) e),
  all_weaker (λ y. r y y ≡ true
      → list_any (r y) xs ≡ true) (λ y. r y y ≡ true → list_any (r y) (x ∷ xs) ≡ true)
      (λ y f e. or_right (r y x) (list_any (r y) xs) (f e)) xs (all_own r xs),
)

-- paths among ways are paths of the wiring
pub path_there : (plan : TopologyPlan) → HaveNumbers plan.switches → Faultless plan → (to n v : ℕ)
    → has_path (ways_of plan) n v to ≡ true → HasPath (wiring plan) to n v
path_there plan h f to zero v e = eqb-true v to e
path_there plan h f to (suc n) v e =
    let w = passing (λ (w : Joint). far_end (wiring plan) (switch_port w.0) ≡ Some (switch_port w.1))
    (λ (w : Joint). (w.0.0 == v) && has_path (ways_of plan) n w.1.0 to) (ways_of plan) (ways_far plan h f) e in
    let k = split_and (w.item.0.0 == v) (has_path (ways_of plan) n w.item.1.0 to) w.passes in
    let at : w.item.0.0 ≡ v = eqb-true w.item.0.0 v k.0 in
    record {
      port = w.item.0.1;
      peer = switch_port w.item.1;
      cable =
          subst (λ (s : ℕ). far_end (wiring plan) (record { switch = s; port = w.item.0.1 })
          ≡ Some (switch_port w.item.1)) at w.has;
      rest = path_there plan h f to n w.item.1.0 k.1;
    }

way_on : (plan : TopologyPlan) (to n : ℕ) (a b : SwitchPort) → far_end (wiring plan) a ≡ Some b
    → has_path (ways_of plan) n b.switch to ≡ true → has_path (ways_of plan) (suc n) a.switch to ≡ true
way_on plan to n a b e p = end_found (λ a b. has_path (ways_of plan) n b.switch to ≡ true
    → has_path (ways_of plan) (suc n) a.switch to ≡ true) (cable_joints plan) a b
    (all_weaker (λ (w : Joint). (w.0.0 == w.0.0) && has_path (ways_of plan) n w.1.0 to ≡ true
    → list_any (λ (x : Joint). (x.0.0 == w.0.0) && has_path (ways_of plan) n x.1.0 to) (ways_of plan) ≡ true)
    (λ (w : Joint). has_path (ways_of plan) n w.1.0 to ≡ true
    → list_any (λ (x : Joint). (x.0.0 == w.0.0) && has_path (ways_of plan) n x.1.0 to) (ways_of plan) ≡ true)
    (λ w f k. f (join_and (w.0.0 == w.0.0) (has_path (ways_of plan) n w.1.0 to) (eq-eqb w.0.0 w.0.0 refl) k))
    (ways_of plan)
    (all_own (λ (w x : Joint). (x.0.0 == w.0.0) && has_path (ways_of plan) n x.1.0 to) (ways_of plan))) e p

pub path_found : (plan : TopologyPlan) (to n v : ℕ) → HasPath (wiring plan) to n v
    → has_path (ways_of plan) n v to ≡ true
path_found plan to zero v p = eq-eqb v to p
path_found plan to (suc n) v p = way_on plan to n (record { switch = v; port = p.port }) p.peer p.cable
    (path_found plan to n p.peer.switch p.rest)

-- the least number of cables, of at most so many
record IsLeast (ways : List Joint) (from to d : ℕ) : Type 0 where
  path : has_path ways d from to ≡ true
  none : (m : ℕ) → m < d → has_path ways m from to ≡ false

or_none : {A : Type 0} (a b : Option A) → option_or a b ≡ None → (a ≡ None) × (b ≡ None)
or_none None b e = (refl, e)
or_none (Some x) b e = absurd (cc)

if_none : (b : Bool) (n : ℕ) → (if b then Some n else None) ≡ None → b ≡ false
if_none true n e = absurd (cc)
if_none false n e = refl

none_within : (ways : List Joint) (n from to m : ℕ) → distance_within ways n from to ≡ None → m ≤ n
    → has_path ways m from to ≡ false
none_within ways zero from to m e le =
    let z : m ≡ 0 = omega arith in
    subst (λ (k : ℕ). has_path ways k from to ≡ false) (sym z) (if_none (from == to) 0 e)
none_within ways (suc n) from to m e le =
    let h = or_none (distance_within ways n from to) (if has_path ways (suc n) from to then Some (suc n) else None) e in
    elim (cases_eq m (suc n)) [
      | inl z ↦ subst (λ (k : ℕ). has_path ways k from to ≡ false) (sym z)
          (if_none (has_path ways (suc n) from to) (suc n) h.1)
      | inr d ↦ none_within ways n from to m h.0 (omega arith)
    ]

least_zero : (ways : List Joint) (from to d : ℕ) (b : Bool) → (from == to) ≡ b → (if b then Some 0 else None) ≡ Some d
    → IsLeast ways from to d
least_zero ways from to d true t e = subst (IsLeast ways from to) (some_injective e)
    (record { path = t; none = λ m lt. absurd (omega arith) })
least_zero ways from to d false t e = absurd (cc)

least_more : (ways : List Joint) (n from to d : ℕ) (b : Bool) → has_path ways (suc n) from to ≡ b
    → distance_within ways n from to ≡ None → (if b then Some (suc n) else None) ≡ Some d → IsLeast ways from to d
least_more ways n from to d true t none e =
    subst (IsLeast ways from to) (some_injective e)
    (record { path = t; none = λ m lt. none_within ways n from to m none (omega arith) })
least_more ways n from to d false t none e = absurd (cc)

least_by : (ways : List Joint) (n from to d : ℕ) (o : Option ℕ) → distance_within ways n from to ≡ o
    → option_or o (if has_path ways (suc n) from to then Some (suc n) else None) ≡ Some d
    → ((e : ℕ) → distance_within ways n from to ≡ Some e → IsLeast ways from to e) → IsLeast ways from to d
least_by ways n from to d None t e f = least_more ways n from to d (has_path ways (suc n) from to) refl t e
least_by ways n from to d (Some x) t e f = subst (IsLeast ways from to) (some_injective e) (f x t)

least_is : (ways : List Joint) (n from to d : ℕ) → distance_within ways n from to ≡ Some d → IsLeast ways from to d
least_is ways zero from to d e = least_zero ways from to d (from == to) refl e
least_is ways (suc n) from to d e = least_by ways n from to d (distance_within ways n from to) refl e
    (λ x k. least_is ways n from to x k)

found_by : (ways : List Joint) (n from to d : ℕ) (o : Option ℕ) → distance_within ways n from to ≡ o → d ≤ n
    → IsLeast ways from to d → o ≡ Some d
found_by ways n from to d None t le l = let f = none_within ways n from to d t le in let p = l.path in absurd (cc)
found_by ways n from to d (Some e) t le l =
    let k = least_is ways n from to e t in
    elim (cases_lt d e) [
      | inl lt ↦ let f = k.none d lt in let p = l.path in absurd (cc)
      | inr ge ↦ elim (cases_lt e d) [
        | inl lt ↦ let f = l.none e lt in let p = k.path in absurd (cc)
        | inr more ↦ let same : e ≡ d = omega arith in ap Some same
      ]
    ]

-- the distance of two switches is that of the wiring
pub distance_is : (plan : TopologyPlan) → HaveNumbers plan.switches → Faultless plan → (from to d : ℕ)
    → distance plan from to ≡ Some d → IsDistance (wiring plan) to d from
distance_is plan h f from to d e =
    let l = least_is (ways_of plan) (length plan.switches) from to d e in
    record {
      path = path_there plan h f to d from l.path;
      least = λ m lt p. let a = path_found plan to m from p in
          let b = l.none m lt in cc;
    }

-- a shortest path comes to no switch twice
record IsAt (w : Wiring) (to n u : ℕ) : Type 0 where
  k : ℕ
  below : k < n
  distance : IsDistance w to (suc k) u

record Visited (plan : TopologyPlan) (to n : ℕ) : Type 0 where
  switches : List ℕ
  count : length switches ≡ n
  far : AllByRecursion (IsAt (wiring plan) to n) switches
  there : AllByRecursion (λ u. list_any (λ i. u == i) (range_with_len 0 (length plan.switches)) ≡ true) switches
  apart : EachPair (λ a b. (i : ℕ) → (a == i) ≡ true → (b == i) ≡ true → ⊥) switches

in_range : (v m n : ℕ) → m ≤ v → v < m + n → list_any (λ i. v == i) (range_with_len m n) ≡ true
in_range v m zero a b = absurd (omega arith)
in_range v m (suc n) a b = elim (cases_eq v m) [
  | inl e ↦ first_of_two (v == m) _ (eq-eqb v m e)
  | inr d ↦ or_right (v == m) _ (in_range v (m + 1) n (omega arith) (omega arith))
]

pub is_in_range : (v n : ℕ) → v < n → list_any (λ i. v == i) (range_with_len 0 n) ≡ true
is_in_range v n lt = in_range v 0 n (omega arith) (omega arith)

further : (w : Wiring) (to n : ℕ) (u : ℕ) → IsAt w to n u → IsAt w to (suc n) u
further w to n u h = let b = h.below in record { k = h.k; below = omega arith; distance = h.distance }

two_distances : (w : Wiring) (to n v u : ℕ) → IsDistance w to (suc n) v → IsAt w to n u → (i : ℕ) → (v == i) ≡ true
    → (u == i) ≡ true → ⊥
two_distances w to n v u d a i e f =
    let same : v ≡ u = eqb-true v i e ∙ sym (eqb-true u i f) in
    let b = a.below in
    d.least (suc a.k) (omega arith) (subst (HasPath w to (suc a.k)) (sym same) a.distance.path)

pub nearer_by : (w : Wiring) (to n v : ℕ) (port : ℕ) (peer : SwitchPort)
    → far_end w (record { switch = v; port = port }) ≡ Some peer → IsDistance w to (suc n) v
    → HasPath w to n peer.switch → IsDistance w to n peer.switch
nearer_by w to n v port peer c d p =
    record {
      path = p;
      least = λ m lt q. d.least (suc m) (omega arith)
          (record { port = port; peer = peer; cable = c; rest = q });
    }

visited : (plan : TopologyPlan) → HaveNumbers plan.switches → (to n v : ℕ) → v < length plan.switches
    → IsDistance (wiring plan) to n v → Visited plan to n
visited plan h to zero v lt d = record { switches = []; count = refl; far = tt; there = tt; apart = tt }
visited plan h to (suc n) v lt d =
    let p = d.path in
    let e = nearer_by (wiring plan) to n v p.port p.peer p.cable d p.rest in
    let rest = visited plan h to n p.peer.switch
    (far_there plan h (record { switch = v; port = p.port }) p.peer p.cable) e in
    record {
      switches = v ∷ rest.switches;
      count = ap suc rest.count;
      far = (
        record { k = n; below = omega arith; distance = d },
        all_weaker (IsAt (wiring plan) to n) (IsAt (wiring plan) to (suc n)) (λ u k. further (wiring plan) to n u k)
            rest.switches rest.far,
      );
      there = (is_in_range v (length plan.switches) lt, rest.there);
      apart = (
        all_weaker (IsAt (wiring plan) to n) (λ u. (i : ℕ) → (v == i) ≡ true → (u == i) ≡ true
            → ⊥) (λ u k. two_distances (wiring plan) to n v u d k) rest.switches rest.far,
        rest.apart,
      );
    }

not_far : (plan : TopologyPlan) → HaveNumbers plan.switches → (to n v : ℕ) → v < length plan.switches
    → IsDistance (wiring plan) to n v → n ≤ length plan.switches
not_far plan h to n v lt d =
    let s = visited plan h to n v lt d in
    let le = no-more (λ a i. a == i) (range_with_len 0 (length plan.switches)) s.switches s.there s.apart in
    omega (arith, le, s.count, range_long (length plan.switches))

pub is_distance : (plan : TopologyPlan) → HaveNumbers plan.switches → Faultless plan → (to d from : ℕ)
    → from < length plan.switches → IsDistance (wiring plan) to d from → distance plan from to ≡ Some d
is_distance plan h f to d from lt k =
    found_by (ways_of plan) (length plan.switches) from to d (distance plan from to) refl
    (not_far plan h to d from lt k)
    (record {
      path = path_found plan to d from k.path;
      none =
          λ m less. fails (has_path (ways_of plan) m from to) (λ e. k.least m less (path_there plan h f to m from e));
    })
