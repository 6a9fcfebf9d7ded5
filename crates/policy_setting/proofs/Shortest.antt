-- Next hops of a plan lie on shortest paths, so there are ways between the outside ports of each virtual switch.
use Rattle.std.proofs.Common.{◌≡◌, ◌≢◌, ◌∙◌, sym, ap, subst, ℕ, zero, suc, ◌+◌, ◌<◌, ◌≤◌, ◌==◌, ◌&&◌, ◌||◌, Bool, true}
use Rattle.std.proofs.Common.{false, cond, List, [], ◌∷◌, ◌++◌, length, Option, Some, None, map, inl, inr, ◌⊎◌, arith}
use Rattle.std.proofs.Common.{refl}
use Rattle.std.specs.Prelude.{slice_get, if◌then◌else◌, find, flat_map, filter_map, is_none, is_some, nat_lt}
use Rattle.std.specs.List.{AllByRecursion, cons_option, enumerate_from, list_any, range_with_len}
use Rattle.std.specs.Option.{option_map, option_map_or, option_and_then, option_or}
use Rattle.std.proofs.lemmas.Bool.{eqb-true, eq-eqb, cases_eq, cases_lt}
use Rattle.std.proofs.lemmas.Bool.Decides.{nat_tests}
use Rattle.std.proofs.lemmas.Option.{slice_get_within}
use Rattle.std.proofs.lemmas.List.FromFn.{length-enumerate_from}
use Rattle.agreement.specs.Premises.{HasWay}
use Rattle.agreement.specs.Ways.{ByCable, HasPath, IsDistance, LeadsNearer, HasShortestHops, AreSoundCables}
use Rattle.agreement.specs.declared.state.Setting.{Setting}
use Rattle.agreement.proofs.Cables.{found-there}
use Rattle.agreement.proofs.Ways.{shortest-hops-are-ways}
use Rattle.policy_expr.specs.Policy.{Policy}
use Rattle.policy_meaning.proofs.Booleans.{split_and, join_and, fails, some_injective, or_right, split_or}
use Rattle.policy_meaning.specs.declared.leaf.LeafTable.{LeafTable}
use Rattle.switch_meaning.specs.Wirings.{other_end, far_end, next_hop, outside_at, same_spot as same_port}
use Rattle.switch_meaning.specs.declared.wiring.NextHop.{NextHop}
use Rattle.switch_meaning.specs.declared.wiring.Outside.{Outside}
use Rattle.switch_meaning.specs.declared.wiring.SwitchPort.{SwitchPort}
use Rattle.switch_meaning.specs.declared.wiring.Wiring.{Wiring}
use Rattle.inner_paths.specs.declared.fault.PathFault.{PathFault}
use Rattle.inner_paths.specs.Cuts.{lies_on, cut_between, cut_from, cut_of, cut_fault}
use Rattle.inner_paths.specs.Distances.{ways_of, distance}
use Rattle.inner_paths.specs.Hops.{Lead, is_nearer, nearer, nearest, lead_by, hop_between, next_hop_of}
use Rattle.virtual_topology.specs.declared.plan.SwitchItem.{SwitchItem}
use Rattle.virtual_topology.specs.declared.plan.TopologyPlan.{TopologyPlan}
use Rattle.virtual_topology.specs.Wires.{Joint, outside_joints, both_ways, cable_joints}
use Rattle.policy_setting.specs.Premises.{HaveNumbers}
use Rattle.policy_setting.specs.Settings.{setting, physical}
use Rattle.policy_setting.specs.Wirings.{switch_port, outside, hop, hops, wiring}
use Rattle.policy_setting.proofs.Parts.{all_weaker, all_of_two, mapped_all, numbered}
use Rattle.policy_setting.proofs.Apart.{Faultless, answers_none}
use Rattle.policy_setting.proofs.Joints.{IsOutside, outside_are, all_filtered}
use Rattle.policy_setting.proofs.Placing.{found_is, one_cable}
use Rattle.policy_setting.proofs.Paths.{IsEnd, ways_far, ways_ends, far_there, end_found, distance_is, is_distance}
use Rattle.policy_setting.proofs.Paths.{is_in_range, nearer_by}

-- a next hop of the wiring is that of the plan
abbrev Goes : ℕ → ℕ → NextHop → Bool
Goes from to n = (n.from == from) && (n.to == to)

find_both_next : {A : Type 0} (t : A → Bool) (x : A) (xs ys : List A) (b : Bool)
    → find t (xs ++ ys) ≡ option_or (find t xs) (find t ys)
    → (if b then Some x else find t (xs ++ ys)) ≡ option_or (if b then Some x else find t xs) (find t ys)
find_both_next t x xs ys true e = refl
find_both_next t x xs ys false e = e

find_both : {A : Type 0} (t : A → Bool) (xs ys : List A) → find t (xs ++ ys) ≡ option_or (find t xs) (find t ys)
find_both t [] ys = refl
find_both t (x ∷ xs) ys = find_both_next t x xs ys (t x) (find_both t xs ys)

abbrev hop_by : ℕ → ℕ → Option ℕ → Option NextHop
hop_by from to o = option_map (λ port. record { from = from; to = to; port = port }) o

inner_same : (from to : ℕ) (rest : List NextHop) (any : Bool) (o : Option ℕ)
    → find (Goes from to) rest ≡ (if any then hop_by from to o else None)
    → find (Goes from to) (cons_option (hop_by from to o) rest) ≡ hop_by from to o
inner_same from to rest true None e = e
inner_same from to rest false None e = e
inner_same from to rest any (Some p) e = rw (eq-eqb from from refl, eq-eqb to to refl) refl

inner_other : (from to x : ℕ) (rest : List NextHop) (o : Option ℕ) (wanted : Option NextHop) → (x == to) ≡ false
    → find (Goes from to) rest ≡ wanted → find (Goes from to) (cons_option (hop_by from x o) rest) ≡ wanted
inner_other from to x rest None wanted d e = e
inner_other from to x rest (Some p) wanted d e = rw (eq-eqb from from refl, d) e

inner_next : (plan : TopologyPlan) (from to x : ℕ) (rest : List NextHop) (any : Bool)
    → find (Goes from to) rest ≡ (if any then hop plan from to else None)
    → find (Goes from to) (cons_option (hop plan from x) rest) ≡ (if (to == x) || any then hop plan from to else None)
inner_next plan from to x rest any e = elim (cases_eq to x) [
  | inl same ↦ subst (λ (z : ℕ). find (Goes from to) (cons_option (hop plan from z) rest)
      ≡ (if (to == z) || any then hop plan from to else None)) same
      (rw (eq-eqb to to refl) (inner_same from to rest any (next_hop_of plan from to) e))
  | inr d ↦
      let off : (to == x) ≡ false = fails (to == x) (λ t. d (eqb-true to x t)) in
      let back : (x == to) ≡ false = fails (x == to) (λ t. d (sym (eqb-true x to t))) in
      rw off (inner_other from to x rest (next_hop_of plan from x) (if any then hop plan from to else None) back e)
]

inner : (plan : TopologyPlan) (from to : ℕ) (tos : List ℕ)
    → find (Goes from to) (filter_map (hop plan from) tos)
    ≡ (if list_any (λ x. to == x) tos then hop plan from to else None)
inner plan from to [] = refl
inner plan from to (x ∷ xs) = inner_next plan from to x (filter_map (hop plan from) xs) (list_any (λ x. to == x) xs)
    (inner plan from to xs)

find_none : {A : Type 0} (t : A → Bool) (xs : List A) → AllByRecursion (λ x. t x ≡ false) xs → find t xs ≡ None
find_none t [] h = refl
find_none t (x ∷ xs) h = rw h.0 (find_none t xs h.1)

hop_from : (from to : ℕ) (o : Option ℕ) (n : NextHop) → hop_by from to o ≡ Some n → n.from ≡ from
hop_from from to None n e = absurd (cc)
hop_from from to (Some p) n e = let same : record { from = from; to = to; port = p } ≡ n = some_injective e in
    sym (ap (λ (n : NextHop). n.from) same)

none_from : (plan : TopologyPlan) (from to f : ℕ) (tos : List ℕ) → (from ≡ f → ⊥)
    → find (Goes from to) (filter_map (hop plan f) tos) ≡ None
none_from plan from to f tos d = find_none (Goes from to) (filter_map (hop plan f) tos)
    (all_filtered (hop plan f) (λ (n : NextHop). Goes from to n ≡ false)
    (λ x n e. fails (Goes from to n)
    (λ t. d (sym (eqb-true n.from from (split_and (n.from == from) (n.to == to) t).0)
    ∙ hop_from f x (next_hop_of plan f x) n e))) tos)

or_same : {A : Type 0} (o : Option A) (any : Bool) → option_or o (if any then o else None) ≡ o
or_same None true = refl
or_same None false = refl
or_same (Some x) any = refl

outer_next : (plan : TopologyPlan) (from to f : ℕ) (tos : List ℕ) (any : Bool)
    → option_or (find (Goes from to) (filter_map (hop plan f) tos))
    (if any then find (Goes from to) (filter_map (hop plan from) tos) else None)
    ≡ (if (from == f) || any then find (Goes from to) (filter_map (hop plan from) tos) else None)
outer_next plan from to f tos any = elim (cases_eq from f) [
  | inl same ↦ subst (λ (z : ℕ). option_or (find (Goes from to) (filter_map (hop plan z) tos))
      (if any then find (Goes from to) (filter_map (hop plan from) tos) else None)
      ≡ (if (from == z) || any then find (Goes from to) (filter_map (hop plan from) tos) else None)) same
      (rw (eq-eqb from from refl) (or_same (find (Goes from to) (filter_map (hop plan from) tos)) any))
  | inr d ↦
      let off : (from == f) ≡ false = fails (from == f) (λ t. d (eqb-true from f t)) in
      rw (off, none_from plan from to f tos d) refl
]

outer : (plan : TopologyPlan) (from to : ℕ) (tos froms : List ℕ)
    → find (Goes from to) (flat_map (λ f. filter_map (hop plan f) tos) froms)
    ≡ (if list_any (λ f. from == f) froms then find (Goes from to) (filter_map (hop plan from) tos) else None)
outer plan from to tos [] = refl
outer plan from to tos (f ∷ fs) =
    let rest = outer plan from to tos fs in
    find_both (Goes from to) (filter_map (hop plan f) tos) (flat_map (λ f. filter_map (hop plan f) tos) fs)
    ∙ (ap (option_or (find (Goes from to) (filter_map (hop plan f) tos))) rest
    ∙ outer_next plan from to f tos (list_any (λ f. from == f) fs))

port_of : (from to : ℕ) (o : Option ℕ) → option_map (λ (n : NextHop). n.port) (hop_by from to o) ≡ o
port_of from to None = refl
port_of from to (Some p) = refl

next_is : (plan : TopologyPlan) (from to : ℕ) → from < length plan.switches → to < length plan.switches
    → next_hop (wiring plan) from to ≡ next_hop_of plan from to
next_is plan from to a b =
    let range = range_with_len 0 (length plan.switches) in
    let first : find (Goes from to) (hops plan) ≡ find (Goes from to) (filter_map (hop plan from) range) =
    outer plan from to range range
    ∙ ap (λ (t : Bool). if t then find (Goes from to) (filter_map (hop plan from) range) else None)
    (is_in_range from (length plan.switches) a) in
    let second : find (Goes from to) (filter_map (hop plan from) range) ≡ hop plan from to = inner plan from to range
    ∙ ap (λ (t : Bool). if t then hop plan from to else None) (is_in_range to (length plan.switches) b) in
    ap (option_map (λ (n : NextHop). n.port)) (first ∙ second) ∙ port_of from to (next_hop_of plan from to)

-- a switch has no next hop to itself
to_itself : (plan : TopologyPlan) (to : ℕ) (o : Option SwitchItem)
    → option_and_then (λ (a : SwitchItem). option_and_then (λ (b : SwitchItem). hop_between plan to to) o) o ≡ None
to_itself plan to None = refl
to_itself plan to (Some x) = rw (eq-eqb to to refl) refl

-- the hop between switches that are there
between : (plan : TopologyPlan) (from to : ℕ) (a b : SwitchItem) → slice_get plan.switches from ≡ Some a
    → slice_get plan.switches to ≡ Some b → next_hop_of plan from to ≡ hop_between plan from to
between plan from to a b e f =
    ap (option_and_then (λ (a : SwitchItem). option_and_then (λ (b : SwitchItem). hop_between plan from to)
    (slice_get plan.switches to))) e ∙ ap (option_and_then (λ (b : SwitchItem). hop_between plan from to)) f

-- the nearest of leads
record IsNearest (P : Lead → Type 0) (leads : List Lead) : Type 0 where
  lead : Lead
  is : nearest leads ≡ Some lead
  has : P lead
  least : AllByRecursion (λ (k : Lead). lead.0 ≤ k.0) leads

at_most : (n : ℕ) (ls : List Lead) (m : ℕ) → n ≤ m → AllByRecursion (λ (k : Lead). m ≤ k.0) ls
    → AllByRecursion (λ (k : Lead). n ≤ k.0) ls
at_most n ls m le h = all_weaker (λ (k : Lead). m ≤ k.0) (λ (k : Lead). n ≤ k.0) (λ k l. omega arith) ls h

nearer_less : (b a : Lead) → is_nearer b a ≡ true → b.0 ≤ a.0
nearer_less b a e = grind (arith, nat_tests)

nearer_not : (b a : Lead) → is_nearer b a ≡ false → a.0 ≤ b.0
nearer_not b a e = grind (arith, nat_tests)

nearest_next : (P : Lead → Type 0) (a : Lead) (ls : List Lead) (n : IsNearest P ls) → P a → (b : Bool)
    → is_nearer n.lead a ≡ b → IsNearest P (a ∷ ls)
nearest_next P a ls n p true e =
    let le : n.lead.0 ≤ a.0 = nearer_less n.lead a e in
    record {
      lead = n.lead;
      is = ap (λ (o : Option Lead). Some (nearer a o)) n.is
          ∙ ap (λ (t : Bool). Some (if t then n.lead else a)) e;
      has = n.has;
      least = (le, n.least);
    }
nearest_next P a ls n p false e =
    let le : a.0 ≤ n.lead.0 = nearer_not n.lead a e in
    record {
      lead = a;
      is = ap (λ (o : Option Lead). Some (nearer a o)) n.is
          ∙ ap (λ (t : Bool). Some (if t then n.lead else a)) e;
      has = p;
      least = (omega arith, at_most a.0 ls n.lead.0 le n.least);
    }

nearest_is : (P : Lead → Type 0) (a : Lead) (ls : List Lead) → AllByRecursion P (a ∷ ls) → IsNearest P (a ∷ ls)
nearest_is P a [] h = record { lead = a; is = refl; has = h.0; least = (omega arith, tt) }
nearest_is P a (b ∷ ls) h = let n = nearest_is P b ls h.1 in nearest_next P a (b ∷ ls) n h.0 (is_nearer n.lead a) refl

-- what is known of each lead
record LeadsOn (plan : TopologyPlan) (from to : ℕ) (l : Lead) : Type 0 where
  peer : SwitchPort
  cable : far_end (wiring plan) (record { switch = from; port = l.1 }) ≡ Some peer
  number : l.1 < 65280
  left : distance plan peer.switch to ≡ Some l.0

lead_left : (plan : TopologyPlan) (from to : ℕ) (w : Joint) (l : Lead)
    → far_end (wiring plan) (record { switch = from; port = w.0.1 }) ≡ Some (switch_port w.1) → w.0.1 < 65280
    → (o : Option ℕ) → distance plan w.1.0 to ≡ o → option_map (λ d. (d, w.0.1)) o ≡ Some l → LeadsOn plan from to l
lead_left plan from to w l e n None t k = absurd (cc)
lead_left plan from to w l e n (Some d) t k =
    let same : (d, w.0.1) ≡ l = some_injective k in
    subst (LeadsOn plan from to) same (record { peer = switch_port w.1; cable = e; number = n; left = t })

lead_from : (plan : TopologyPlan) (from to : ℕ) (w : Joint) (l : Lead)
    → far_end (wiring plan) (switch_port w.0) ≡ Some (switch_port w.1) → w.0.1 < 65280 → (b : Bool)
    → (w.0.0 == from) ≡ b → (if b then option_map (λ d. (d, w.0.1)) (distance plan w.1.0 to) else None) ≡ Some l
    → LeadsOn plan from to l
lead_from plan from to w l e n false t k = absurd (cc)
lead_from plan from to w l e n true t k = lead_left plan from to w l
    (subst (λ (s : ℕ). far_end (wiring plan) (record { switch = s; port = w.0.1 }) ≡ Some (switch_port w.1))
    (eqb-true w.0.0 from t) e) n (distance plan w.1.0 to) refl k

lead_by_way : (plan : TopologyPlan) (from to : ℕ) (w : Joint) (l : Lead)
    → far_end (wiring plan) (switch_port w.0) ≡ Some (switch_port w.1) → w.0.1 < 65280
    → lead_by (λ s. distance plan s to) from w ≡ Some l → LeadsOn plan from to l
lead_by_way plan from to w l e n k = lead_from plan from to w l e n (w.0.0 == from) refl k

made_next : {A B : Type 0} (f : A → Option B) (P : B → Type 0) (x : A) (o : Option B) → f x ≡ o → (ys : List B)
    → ((y : B) → f x ≡ Some y → P y) → AllByRecursion P ys → AllByRecursion P (cons_option o ys)
made_next f P x None e ys g h = h
made_next f P x (Some y) e ys g h = (g y e, h)

-- what is made of each item, and the other way round
all_of_list : {A B : Type 0} (f : A → Option B) (P : B → Type 0) (xs : List A)
    → AllByRecursion (λ x. (y : B) → f x ≡ Some y → P y) xs → AllByRecursion P (filter_map f xs)
all_of_list f P [] h = tt
all_of_list f P (x ∷ xs) h = made_next f P x (f x) refl (filter_map f xs) h.0 (all_of_list f P xs h.1)

all_leads : (plan : TopologyPlan) (from to : ℕ) → HaveNumbers plan.switches → Faultless plan
    → AllByRecursion (LeadsOn plan from to) (filter_map (lead_by (λ s. distance plan s to) from) (ways_of plan))
all_leads plan from to h f = all_of_list (lead_by (λ s. distance plan s to) from) (LeadsOn plan from to) (ways_of plan)
    (all_of_two (λ (w : Joint). far_end (wiring plan) (switch_port w.0) ≡ Some (switch_port w.1))
    (λ (w : Joint). IsEnd plan w.0 × IsEnd plan w.1) (λ (w : Joint). (l : Lead)
    → lead_by (λ s. distance plan s to) from w ≡ Some l → LeadsOn plan from to l)
    (λ w e k l m. lead_by_way plan from to w l e k.0.number m) (ways_of plan) (ways_far plan h f) (ways_ends plan h))

unmade_next : {A B : Type 0} (f : A → Option B) (P : B → Type 0) (x : A) (o : Option B) → f x ≡ o
    → (ys : List B) (xs : List A) → AllByRecursion P (cons_option o ys)
    → (AllByRecursion P ys → AllByRecursion (λ x. (y : B) → f x ≡ Some y → P y) xs)
    → AllByRecursion (λ x. (y : B) → f x ≡ Some y → P y) (x ∷ xs)
unmade_next f P x None e ys xs h g = ((λ y k. absurd (cc)), g h)
unmade_next f P x (Some z) e ys xs h g = ((λ y k. subst P (some_injective (sym e ∙ k)) h.0), g h.1)

list_of_all : {A B : Type 0} (f : A → Option B) (P : B → Type 0) (xs : List A) → AllByRecursion P (filter_map f xs)
    → AllByRecursion (λ x. (y : B) → f x ≡ Some y → P y) xs
list_of_all f P [] h = tt
list_of_all f P (x ∷ xs) h = unmade_next f P x (f x) refl (filter_map f xs) xs h (λ k. list_of_all f P xs k)

-- the lead of a cable is among them
record IsAmong (plan : TopologyPlan) (from to : ℕ) (P : Lead → Type 0) (n : ℕ) : Type 0 where
  lead : (a b : SwitchPort) → a.switch ≡ from → far_end (wiring plan) a ≡ Some b → distance plan b.switch to ≡ Some n
      → P (n, a.port)

lead_of_way : (plan : TopologyPlan) (from to n : ℕ) (w : Joint) → w.0.0 ≡ from → distance plan w.1.0 to ≡ Some n
    → lead_by (λ s. distance plan s to) from w ≡ Some (n, w.0.1)
lead_of_way plan from to n w e d = rw (eq-eqb w.0.0 from e, d) refl

among : (plan : TopologyPlan) (from to n : ℕ) (P : Lead → Type 0)
    → AllByRecursion P (filter_map (lead_by (λ s. distance plan s to) from) (ways_of plan)) → IsAmong plan from to P n
among plan from to n P h = record {
  lead = λ a b s e d. end_found (λ a b. a.switch ≡ from → distance plan b.switch to ≡ Some n
      → P (n, a.port)) (cable_joints plan) a b
      (all_weaker (λ (w : Joint). (l : Lead) → lead_by (λ s. distance plan s to) from w ≡ Some l
      → P l) (λ (w : Joint). w.0.0 ≡ from → distance plan w.1.0 to ≡ Some n → P (n, w.0.1))
      (λ w g k m. g (n, w.0.1) (lead_of_way plan from to n w k m)) (ways_of plan)
      (list_of_all (lead_by (λ s. distance plan s to) from) P (ways_of plan) h)) e s d;
}

not_less : (n m : ℕ) → (m < n → ⊥) → n ≤ m
not_less n m f = elim (cases_lt m n) [ inl lt ↦ absurd (f lt) | inr le ↦ le ]

-- switches that are there
record IsThere {A : Type 0} (xs : List A) (i : ℕ) : Type 0 where
  item : A
  is : slice_get xs i ≡ Some item

there : {A : Type 0} (xs : List A) (i : ℕ) → i < length xs → IsThere xs i
there [] i lt = absurd (omega arith)
there (x ∷ xs) zero lt = record { item = x; is = refl }
there (x ∷ xs) (suc i) lt = let t = there xs i (omega arith) in record { item = t.item; is = t.is }

hop_there : (plan : TopologyPlan) (from to : ℕ) → from < length plan.switches → to < length plan.switches
    → next_hop_of plan from to ≡ hop_between plan from to
hop_there plan from to a b = let x = there plan.switches from a in let y = there plan.switches to b in
    between plan from to x.item y.item x.is y.is

-- the nearest lead is on a shortest path
hop_found : (plan : TopologyPlan) → HaveNumbers plan.switches → Faultless plan → (to n from : ℕ)
    → from < length plan.switches → to < length plan.switches → IsDistance (wiring plan) to (suc n) from
    → (ls : List Lead) → filter_map (lead_by (λ s. distance plan s to) from) (ways_of plan) ≡ ls
    → LeadsNearer (wiring plan) to n from
hop_found plan h f to n from a b d [] e =
    let p = d.path in
    let k = nearer_by (wiring plan) to n from p.port p.peer p.cable d p.rest in
    let there = far_there plan h (record { switch = from; port = p.port }) p.peer p.cable in
    let none = (among plan from to n (λ _. ⊥) (subst (AllByRecursion (λ (l : Lead). ⊥)) (sym e) tt)).lead
    (record { switch = from; port = p.port }) p.peer refl p.cable
    (is_distance plan h f to n p.peer.switch there k) in
    absurd none
hop_found plan h f to n from a b d (l ∷ ls) e =
    let p = d.path in
    let k = nearer_by (wiring plan) to n from p.port p.peer p.cable d p.rest in
    let there = far_there plan h (record { switch = from; port = p.port }) p.peer p.cable in
    let leads = subst (AllByRecursion (LeadsOn plan from to)) e (all_leads plan from to h f) in
    let best = nearest_is (LeadsOn plan from to) l ls leads in
    let upper : best.lead.0 ≤ n =
    (among plan from to n (λ (k : Lead). best.lead.0 ≤ k.0)
    (subst (AllByRecursion (λ (k : Lead). best.lead.0 ≤ k.0)) (sym e) best.least)).lead
    (record { switch = from; port = p.port }) p.peer refl p.cable
    (is_distance plan h f to n p.peer.switch there k) in
    let on = best.has in
    let left = distance_is plan h f on.peer.switch to best.lead.0 on.left in
    let lower : n ≤ best.lead.0 =
    not_less n best.lead.0
    (λ lt. d.least (suc best.lead.0) (omega arith)
    (record { port = best.lead.1; peer = on.peer; cable = on.cable; rest = left.path })) in
    let same : best.lead.0 ≡ n = omega arith in
    let apart : from ≡ to → ⊥ = λ z. d.least 0 (omega arith) z in
    let off : (from == to) ≡ false = fails (from == to) (λ t. apart (eqb-true from to t)) in
    let best_of : nearest (filter_map (lead_by (λ s. distance plan s to) from) (ways_of plan)) ≡ Some best.lead =
    ap nearest e ∙ best.is in
    let hop : hop_between plan from to ≡ Some best.lead.1 =
    ap (λ (t : Bool). if t then None else option_map (λ (l : Lead). l.1)
    (nearest (filter_map (lead_by (λ s. distance plan s to) from) (ways_of plan)))) off
    ∙ ap (option_map (λ (l : Lead). l.1)) best_of in
    record {
      port = best.lead.1;
      peer = on.peer;
      hop = next_is plan from to a b ∙ (hop_there plan from to a b ∙ hop);
      number = on.number;
      cable = on.cable;
      path = subst (λ (m : ℕ). HasPath (wiring plan) to m on.peer.switch) same left.path;
    }

far_from : (plan : TopologyPlan) → HaveNumbers plan.switches → (a b : SwitchPort) → far_end (wiring plan) a ≡ Some b
    → a.switch < length plan.switches
far_from plan h a b e = end_found (λ a b. a.switch < length plan.switches) (cable_joints plan) a b
    (all_weaker (λ (w : Joint). IsEnd plan w.0 × IsEnd plan w.1) (λ (w : Joint). w.0.0 < length plan.switches)
    (λ w k. k.0.there) (ways_of plan) (ways_ends plan h)) e

-- next hops of the wiring are such, to each switch that is there
path_from : (plan : TopologyPlan) → HaveNumbers plan.switches → (to n from : ℕ) → HasPath (wiring plan) to (suc n) from
    → from < length plan.switches
path_from plan h to n from p = far_from plan h (record { switch = from; port = p.port }) p.peer p.cable

shortest_hops : (plan : TopologyPlan) → HaveNumbers plan.switches → Faultless plan → (to : ℕ)
    → to < length plan.switches → HasShortestHops (wiring plan) to
shortest_hops plan h f to b = record {
  hops = λ n from d. hop_found plan h f to n from (path_from plan h to n from d.path) b d
      (filter_map (lead_by (λ s. distance plan s to) from) (ways_of plan)) refl;
  stays = next_is plan to to b b ∙ to_itself plan to (slice_get plan.switches to);
}

-- as many physical switches as the plan has
as_many : (up : List Bool) (m : ℕ) (xs : List SwitchItem) → length (map (physical up) (enumerate_from m xs)) ≡ length xs
as_many up m [] = refl
as_many up m (x ∷ xs) = ap suc (as_many up (m + 1) xs)

sound_cables : (plan : TopologyPlan) → HaveNumbers plan.switches → Faultless plan
    → (exprs : List Policy) (seen : List Bool) (tables : List LeafTable) (up : List Bool) (most : ℕ)
    → AreSoundCables (setting plan exprs seen tables up most)
sound_cables plan h f exprs seen tables up most = record {
  ends = λ a b e. subst (λ (n : ℕ). b.switch < n) (sym (as_many up 0 plan.switches)) (far_there plan h a b e);
  once = one_cable plan h f;
}

record HasValue (o : Option ℕ) : Type 0 where
  value : ℕ
  is : o ≡ Some value

-- without a cut there is a distance between switches of one virtual switch
cut_by : (b : Bool) (o : Option ℕ) (f : PathFault) → b ≡ true → (if b && is_none o then Some f else None) ≡ None
    → HasValue o
cut_by b None f t e = absurd (let k = subst (λ (z : Bool). (if z && true then Some f else None) ≡ None) t e in cc)
cut_by b (Some d) f t e = record { value = d; is = refl }

numbered_gives : {A : Type 0} (P : ℕ × A → Type 0) (m : ℕ) (xs : List A) (k : ℕ) (x : A) → slice_get xs k ≡ Some x
    → AllByRecursion P (enumerate_from m xs) → P (m + k, x)
numbered_gives P m [] k x t h = absurd (cc)
numbered_gives P m (y ∷ ys) zero x t h = let p : m ≡ m + 0 = omega arith in subst P (λ i. (p i, some_injective t i)) h.0
numbered_gives P m (y ∷ ys) (suc k) x t h = let p : (m + 1) + k ≡ m + suc k = omega arith in
    subst (λ (n : ℕ). P (n, x)) p (numbered_gives P (m + 1) ys k x t h.1)

range_gives : (P : ℕ → Type 0) (m n k : ℕ) → k < n → AllByRecursion P (range_with_len m n) → P (m + k)
range_gives P m zero k lt h = absurd (omega arith)
range_gives P m (suc n) zero lt h = let p : m ≡ m + 0 = omega arith in subst P p h.0
range_gives P m (suc n) (suc k) lt h = let p : (m + 1) + k ≡ m + suc k = omega arith in
    subst P p (range_gives P (m + 1) n k (omega arith) h.1)

uncut : (plan : TopologyPlan) → cut_fault plan ≡ None → (v i j : ℕ) → v < length plan.virtuals
    → i < length plan.switches → j < length plan.switches → lies_on plan v i ≡ true → lies_on plan v j ≡ true
    → HasValue (distance plan i j)
uncut plan e v i j lv li lj a b =
    let x = there plan.switches i li in
    let y = there plan.switches j lj in
    let z : 0 + v ≡ v = omega arith in
    let zi : 0 + i ≡ i = omega arith in
    let zj : 0 + j ≡ j = omega arith in
    let all = subst (λ (n : ℕ). cut_of plan n ≡ None) z
    (range_gives (λ v. cut_of plan v ≡ None) 0 (length plan.virtuals) v lv
    (answers_none (cut_of plan) (range_with_len 0 (length plan.virtuals)) e)) in
    let from = subst (λ (n : ℕ). cut_from plan v (n, x.item) ≡ None) zi
    (numbered_gives (λ (a : ℕ × SwitchItem). cut_from plan v a ≡ None) 0 plan.switches i x.item x.is
    (answers_none (cut_from plan v) (enumerate_from 0 plan.switches) all)) in
    let to = subst (λ (n : ℕ). cut_between plan v (i, x.item) (n, y.item) ≡ None) zj
    (numbered_gives (λ (b : ℕ × SwitchItem). cut_between plan v (i, x.item) b ≡ None) 0 plan.switches j y.item y.is
    (answers_none (cut_between plan v (i, x.item)) (enumerate_from 0 plan.switches) from)) in
    cut_by (lies_on plan v i && lies_on plan v j) (distance plan i j) _
    (join_and (lies_on plan v i) (lies_on plan v j) a b) to

-- an outside port of the wiring lies on its switch
record IsPlaced (plan : TopologyPlan) (o : Outside) : Type 0 where
  lies : lies_on plan o.v o.at.switch ≡ true
  virtual : o.v < length plan.virtuals
  switch : o.at.switch < length plan.switches

or_first : (a b : Bool) → a ≡ true → a || b ≡ true
or_first true b e = refl
or_first false b e = absurd (cc)

lies_all : (js : List Joint)
    → AllByRecursion (λ (j : Joint). list_any (λ (o : Joint). (o.0.0 == j.0.0) && (o.1.0 == j.1.0)) js ≡ true) js
lies_all [] = tt
lies_all (j ∷ js) = (
  or_first ((j.0.0 == j.0.0) && (j.1.0 == j.1.0)) _
      (join_and (j.0.0 == j.0.0) (j.1.0 == j.1.0) (eq-eqb j.0.0 j.0.0 refl) (eq-eqb j.1.0 j.1.0 refl)),
  all_weaker (λ (k : Joint). list_any (λ (o : Joint). (o.0.0 == k.0.0) && (o.1.0 == k.1.0)) js ≡ true)
      (λ (k : Joint). list_any (λ (o : Joint). (o.0.0 == k.0.0) && (o.1.0 == k.1.0)) (j ∷ js) ≡ true)
      (λ k e. or_right ((j.0.0 == k.0.0) && (j.1.0 == k.1.0)) _ e) js (lies_all js),
)

some_within : {A : Type 0} (xs : List A) (i : ℕ) (o : Option A) → slice_get xs i ≡ o → is_some o ≡ true → i < length xs
some_within xs i None t e = absurd (cc)
some_within xs i (Some x) t e = slice_get_within xs i x t

placed : (plan : TopologyPlan) → HaveNumbers plan.switches → AllByRecursion (IsPlaced plan) (wiring plan).outside
placed plan h = mapped_all (outside plan) (IsPlaced plan) (outside_joints plan)
    (all_of_two (λ (j : Joint). list_any (λ (o : Joint). (o.0.0 == j.0.0) && (o.1.0 == j.1.0)) (outside_joints plan)
    ≡ true) (IsOutside plan) (λ (j : Joint). IsPlaced plan (outside plan j))
    (λ j e k. record {
      lies = e;
      virtual = slice_get_within plan.virtuals j.0.0 k.item k.there;
      switch = some_within plan.switches j.1.0 (slice_get plan.switches j.1.0) refl k.below.is;
    }) (outside_joints plan)
    (lies_all (outside_joints plan)) (outside_are plan h))

pub ways : (plan : TopologyPlan) → HaveNumbers plan.switches → Faultless plan → cut_fault plan ≡ None
    → (exprs : List Policy) (seen : List Bool) (tables : List LeafTable) (up : List Bool) (most : ℕ)
    → (v p q : ℕ) (a b : Outside) → outside_at (wiring plan) v p ≡ Some a → outside_at (wiring plan) v q ≡ Some b
    → HasWay (setting plan exprs seen tables up most) a.at.switch b.at.switch
ways plan h f cut exprs seen tables up most v p q a b e k =
    let x = found_is (IsPlaced plan) (wiring plan).outside v p a (placed plan h) e in
    let y = found_is (IsPlaced plan) (wiring plan).outside v q b (placed plan h) k in
    let m = (found-there v p (wiring plan).outside a e).0.0 in
    let n = (found-there v q (wiring plan).outside b k).0.0 in
    let d = uncut plan cut v a.at.switch b.at.switch (subst (λ (u : ℕ). u < length plan.virtuals) m x.virtual) x.switch
    y.switch (subst (λ (u : ℕ). lies_on plan u a.at.switch ≡ true) m x.lies)
    (subst (λ (u : ℕ). lies_on plan u b.at.switch ≡ true) n y.lies) in
    shortest-hops-are-ways (setting plan exprs seen tables up most) (sound_cables plan h f exprs seen tables up most)
    b.at.switch (shortest_hops plan h f b.at.switch y.switch) d.value a.at.switch
    (subst (λ (n : ℕ). a.at.switch < n) (sym (as_many up 0 plan.switches)) x.switch)
    (distance_is plan h f a.at.switch b.at.switch d.value d.is)
