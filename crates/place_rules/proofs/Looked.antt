-- What the wiring of a topology has is what the topology and its paths have.
use Rattle.std.proofs.Common.{◌≡◌, ℕ, zero, suc, ◌+◌, ◌<◌, ◌≤◌, Bool, true, false, cond, ◌&&◌, ◌||◌, List, [], ◌∷◌}
use Rattle.std.proofs.Common.{◌++◌, map, find, get_or, length, suc-add, take, take_all, append_assoc, Option, Some}
use Rattle.std.proofs.Common.{None, refl, sym, ap, ap₂, ◌∙◌, arith, eqb-true, eq-eqb, slice_get}
use Rattle.std.specs.Prelude.{◌==◌, ◌*◌, ◌/◌, filter_map, flat_map, if◌then◌else◌, nat_lt, option_map, option_to_list}
use Rattle.std.specs.List.{cons_option, list_any, range_with_len}
use Rattle.std.specs.Map.{lookup}
use Rattle.std.specs.Option.{option_and_then, option_or}
use Rattle.std.proofs.lemmas.Bool.{ltb-false, ltb-true}
use Rattle.std.proofs.lemmas.List.Concat.{flat_map-append}
use Rattle.std.proofs.lemmas.List.Elements.{filter_map-append}
use Rattle.std.proofs.lemmas.List.Folds.{find-append, list_any_at}
use Rattle.std.proofs.lemmas.List.FromFn.{get_or-range_with_len, length-range_with_len}
use Rattle.std.proofs.lemmas.Option.{slice_get_past}
use Rattle.of10_match.proofs.Prefixes.{eqb-flip}
use Rattle.switch_meaning.proofs.Items.{fails, split_and}
use Rattle.virtual_topology.specs.declared.plan.SwitchItem.{SwitchItem}
use Rattle.virtual_topology.specs.declared.plan.TopologyPlan.{TopologyPlan}
use Rattle.virtual_topology.specs.Rows.{same_spot as same_place}
use Rattle.virtual_topology.specs.Wires.{Joint, both_ways, cable_joints, outside_joints}
use Rattle.inner_paths.specs.Hops.{hop_between, next_hop_of}
use Rattle.switch_meaning.specs.Fixed.{ends_at, transits_to}
use Rattle.switch_meaning.specs.declared.entry.PhysEntry.{PhysEntry}
use Rattle.switch_meaning.specs.declared.wiring.Wiring.{Wiring}
use Rattle.place_rules.specs.InsideTransits.{transits_by}
use Rattle.switch_meaning.specs.Wirings.{next_hop, other_end}
use Rattle.switch_meaning.specs.declared.wiring.Cable.{Cable}
use Rattle.switch_meaning.specs.declared.wiring.NextHop.{NextHop}
use Rattle.switch_meaning.specs.declared.wiring.Outside.{Outside}
use Rattle.switch_meaning.specs.declared.wiring.SwitchPort.{SwitchPort}
use Rattle.place_rules.specs.Joined.{cable_from, hop_from, outside_at_spot, outside_from, port_at, wiring_of}
use Rattle.place_rules.specs.PlacingLaw.{WiringsAgree}

-- one more from the front
pub take_pushed : {X : Type 0} (xs : List X) (i : ℕ) (x : X) → i < length xs → x ≡ get_or xs i x
    → take (i + 1) xs ≡ take i xs ++ x ∷ []
take_pushed [] i x h e = absurd (omega arith)
take_pushed (y ∷ xs) zero x h e = ap (λ z. z ∷ []) (sym e)
take_pushed (y ∷ xs) (suc i) x h e = rw suc-add (ap (λ zs. y ∷ zs) (take_pushed xs i x (omega arith) e))

-- what stands at a place of a list doesn't depend on what would stand past its end
got_same : {X : Type 0} (xs : List X) (i : ℕ) (d e : X) → i < length xs → get_or xs i d ≡ get_or xs i e
got_same [] i d e h = absurd (omega arith)
got_same (x ∷ xs) zero d e h = refl
got_same (x ∷ xs) (suc i) d e h = got_same xs i d e (omega arith)

map-both : {X Y : Type 0} (f : X → Y) (xs ys : List X) → map f (xs ++ ys) ≡ map f xs ++ map f ys
map-both f [] ys = refl
map-both f (x ∷ xs) ys = ap (λ zs. f x ∷ zs) (map-both f xs ys)

append_none : {X : Type 0} (xs : List X) → xs ++ [] ≡ xs
append_none [] = refl
append_none (x ∷ xs) = ap (λ ys. x ∷ ys) (append_none xs)

-- two tests of equal numbers, turned round
flips : (a b c d : ℕ) → ((a == b) && (c == d)) ≡ ((b == a) && (d == c))
flips a b c d = ap₂ (λ x y. x && y) (eqb-flip a b) (eqb-flip c d)

module _ (plan : TopologyPlan) where
  outside-find : (v port : ℕ) (js : List Joint)
      → find (λ (o : Outside). (o.v == v) && (o.port == port)) (map (outside_from plan) js)
      ≡ option_map (outside_at_spot plan v port) (lookup (same_place (v, port)) js)
  outside-find v port [] = refl
  outside-find v port (j ∷ js) =
      by ((j.0.0 == v) && (j.0.1 == port)) refl (outside-find v port js)
      ∙ ap (λ b. option_map (outside_at_spot plan v port) (cond b (Some j.1) (lookup (same_place (v, port)) js)))
      (flips j.0.0 v j.0.1 port)
    where
      by : (b : Bool) → ((j.0.0 == v) && (j.0.1 == port)) ≡ b
          → find (λ (o : Outside). (o.v == v) && (o.port == port)) (map (outside_from plan) js)
          ≡ option_map (outside_at_spot plan v port) (lookup (same_place (v, port)) js)
          → cond b (Some (outside_from plan j))
          (find (λ (o : Outside). (o.v == v) && (o.port == port)) (map (outside_from plan) js))
          ≡ option_map (outside_at_spot plan v port) (cond b (Some j.1) (lookup (same_place (v, port)) js))
      by true t r =
          let s = split_and (j.0.0 == v) (j.0.1 == port) t in
          ap₂ (λ u p. Some (outside_at_spot plan u p j.1)) (eqb-true j.0.0 v s.0) (eqb-true j.0.1 port s.1)
      by false t r = r

  -- one of these is the number, as a test
  abbrev has : List ℕ → ℕ → Bool
  has ns n = list_any (λ m. m == n) ns

  abbrev leads_between : ℕ → ℕ → NextHop → Bool
  leads_between a b n = (n.from == a) && (n.to == b)

  keep-none : {A : Type 0} (x : Bool) (o : Option A) → o ≡ None → (if x then o else None) ≡ None
  keep-none true o e = e
  keep-none false o e = refl

  row-find : (a b from : ℕ) (ts : List ℕ)
      → find (leads_between a b) (filter_map (hop_from plan from) ts)
      ≡ (if (from == a) && has ts b then hop_from plan a b else None)
  row-find a b from [] = sym (by (from == a))
    where
      by : (x : Bool) → (if x && false then hop_from plan a b else None) ≡ None
      by true = refl
      by false = refl
  row-find a b from (t ∷ ts) = by (next_hop_of plan from t) refl (row-find a b from ts)
    where
      rest : List NextHop
      rest = filter_map (hop_from plan from) ts

      there : (x y : Bool) (p : ℕ) → (from == a) ≡ x → (t == b) ≡ y → next_hop_of plan from t ≡ Some p
          → find (leads_between a b) rest ≡ (if x && has ts b then hop_from plan a b else None)
          → cond (x && y) (Some (record { from = from; to = t; port = p })) (find (leads_between a b) rest)
          ≡ (if x && (y || has ts b) then hop_from plan a b else None)
      there true true p e f n r =
          ap₂ (λ u w. Some (record { from = u; to = w; port = p })) (eqb-true from a e) (eqb-true t b f)
          ∙ sym (ap (option_map (λ q. record { from = a; to = b; port = q }))
          (ap₂ (next_hop_of plan) (sym (eqb-true from a e)) (sym (eqb-true t b f)) ∙ n))
      there true false p e f n r = r
      there false y p e f n r = r

      absent : (x y : Bool) → (from == a) ≡ x → (t == b) ≡ y → next_hop_of plan from t ≡ None
          → find (leads_between a b) rest ≡ (if x && has ts b then hop_from plan a b else None)
          → find (leads_between a b) rest ≡ (if x && (y || has ts b) then hop_from plan a b else None)
      absent true true e f n r =
          let none : hop_from plan a b ≡ None =
          ap (option_map (λ q. record { from = a; to = b; port = q }))
          (ap₂ (next_hop_of plan) (sym (eqb-true from a e)) (sym (eqb-true t b f)) ∙ n) in
          r ∙ (keep-none (has ts b) (hop_from plan a b) none ∙ sym none)
      absent true false e f n r = r
      absent false y e f n r = r

      by : (o : Option ℕ) → next_hop_of plan from t ≡ o
          → find (leads_between a b) rest ≡ (if (from == a) && has ts b then hop_from plan a b else None)
          → find (leads_between a b)
          (cons_option (option_map (λ port. record { from = from; to = t; port = port }) o) rest)
          ≡ (if (from == a) && ((t == b) || has ts b) then hop_from plan a b else None)
      by None n r = absent (from == a) (t == b) refl refl n r
      by (Some p) n r = there (from == a) (t == b) p refl refl n r

  rows-find : (a b : ℕ) (fs ts : List ℕ)
      → find (leads_between a b) (flat_map (λ from. filter_map (hop_from plan from) ts) fs)
      ≡ (if has fs a && has ts b then hop_from plan a b else None)
  rows-find a b [] ts = refl
  rows-find a b (f ∷ fs) ts =
      find-append (leads_between a b) (filter_map (hop_from plan f) ts)
      (flat_map (λ from. filter_map (hop_from plan from) ts) fs)
      ∙ (ap₂ option_or (row-find a b f ts) (rows-find a b fs ts)
      ∙ either (f == a) (has fs a) (has ts b) (hop_from plan a b))
    where
      either : (x y z : Bool) (o : Option NextHop)
          → option_or (if x && z then o else None) (if y && z then o else None) ≡ (if (x || y) && z then o else None)
      either true true true None = refl
      either true true true (Some n) = refl
      either true true false o = refl
      either true false true None = refl
      either true false true (Some n) = refl
      either true false false o = refl
      either false y z o = refl

  -- the first so many numbers have those below
  in-range : (n k : ℕ) → k < n → has (range_with_len 0 n) k ≡ true
  in-range n k lt =
      let len = length-range_with_len 0 n in
      let at = get_or-range_with_len 0 n k 0 lt in
      list_any_at (λ m. m == k) (range_with_len 0 n) k 0 (omega (arith, len))
      (eq-eqb (get_or (range_with_len 0 n) k 0) k (omega (arith, at)))

  no-second : (o : Option SwitchItem) (p : Option SwitchItem) (a b : ℕ) → p ≡ None
      → option_and_then (λ (x : SwitchItem). option_and_then (λ (y : SwitchItem). hop_between plan a b) p) o ≡ None
  no-second None p a b e = refl
  no-second (Some x) p a b e = ap (option_and_then (λ (y : SwitchItem). hop_between plan a b)) e

  no-from : (a b : ℕ) → length plan.switches ≤ a → hop_from plan a b ≡ None
  no-from a b h =
      ap (λ o. option_map (λ q. record { from = a; to = b; port = q })
      (option_and_then (λ (x : SwitchItem). option_and_then (λ (y : SwitchItem). hop_between plan a b)
      (slice_get plan.switches b)) o)) (slice_get_past plan.switches a h)

  no-to : (a b : ℕ) → length plan.switches ≤ b → hop_from plan a b ≡ None
  no-to a b h = ap (option_map (λ q. record { from = a; to = b; port = q }))
      (no-second (slice_get plan.switches a) (slice_get plan.switches b) a b (slice_get_past plan.switches b h))

  next-is : (a b : ℕ) → next_hop (wiring_of plan) a b ≡ next_hop_of plan a b
  next-is a b =
      let n = length plan.switches in
      let ns = range_with_len 0 n in
      ap (option_map (λ (x : NextHop). x.port)) (rows-find a b ns ns ∙ by (has ns a) (has ns b) refl refl)
      ∙ ports (next_hop_of plan a b)
    where
      ports : (o : Option ℕ)
          → option_map (λ (x : NextHop). x.port) (option_map (λ q. record { from = a; to = b; port = q }) o) ≡ o
      ports None = refl
      ports (Some q) = refl

      beyond : (k : ℕ) → has (range_with_len 0 (length plan.switches)) k ≡ false → length plan.switches ≤ k
      beyond k e = ltb-false k (length plan.switches)
          (fails (nat_lt k (length plan.switches)) (λ t. let there =
          in-range (length plan.switches) k (ltb-true k (length plan.switches) t) in cc))

      by : (x y : Bool) → has (range_with_len 0 (length plan.switches)) a ≡ x
          → has (range_with_len 0 (length plan.switches)) b ≡ y
          → (if x && y then hop_from plan a b else None) ≡ hop_from plan a b
      by true true e f = refl
      by true false e f = sym (no-to a b (beyond b f))
      by false y e f = sym (no-from a b (beyond a e))

  ends-find : (switch port : ℕ) (js : List Joint)
      → other_end (map cable_from js) (record { switch = switch; port = port })
      ≡ option_map port_at (lookup (same_place (switch, port)) (both_ways js))
  ends-find switch port [] = refl
  ends-find switch port (j ∷ js) =
      ap₂ (λ x y. if x then Some (port_at j.1)
      else (if y then Some (port_at j.0)
      else other_end (map cable_from js) (record { switch = switch; port = port }))) (flips j.0.0 switch j.0.1 port)
      (flips j.1.0 switch j.1.1 port)
      ∙ by (same_place (switch, port) j.0) (same_place (switch, port) j.1) (ends-find switch port js)
    where
      by : (x y : Bool)
          → other_end (map cable_from js) (record { switch = switch; port = port })
          ≡ option_map port_at (lookup (same_place (switch, port)) (both_ways js))
          → (if x then Some (port_at j.1)
          else (if y then Some (port_at j.0)
          else other_end (map cable_from js) (record { switch = switch; port = port })))
          ≡ option_map port_at
          (cond x (Some j.1) (cond y (Some j.0) (lookup (same_place (switch, port)) (both_ways js))))
      by true y r = refl
      by false true r = refl
      by false false r = r

-- the law
pub wirings-agree : WiringsAgree
wirings-agree plan = record {
  outside = λ v port. outside-find plan v port (outside_joints plan);
  next_hop = λ a b. next-is plan a b;
  far_end = λ switch port. ends-find plan switch port (cable_joints plan);
}

-- every other way is that of a cable
pub both-length : (js : List Joint) → length (both_ways js) ≡ 2 * length js
both-length [] = refl
both-length (j ∷ js) = let r = both-length js in omega (arith, r)

pub both-at : (js : List Joint) (i : ℕ) (d : Joint) → i < length js → get_or (both_ways js) (2 * i) d ≡ get_or js i d
both-at [] i d h = absurd (omega arith)
both-at (j ∷ js) zero d h = refl
both-at (j ∷ js) (suc i) d h = let two : 2 * suc i ≡ suc (suc (2 * i)) = omega arith in
    ap (λ k. get_or (both_ways (j ∷ js)) k d) two ∙ both-at js i d (omega arith)

-- one cable more
pub cables_more : (js ways : List Joint) (list new : List Cable) (cable : Cable) (i : ℕ) (d : Joint)
    → ways ≡ both_ways js → i < length ways / 2 → cable ≡ cable_from (get_or ways (2 * i) d)
    → list ≡ map cable_from (take i js) → new ≡ list ++ cable ∷ [] → new ≡ map cable_from (take (i + 1) js)
cables_more js ways list new cable i d w lt is so_far n =
    let len : length ways ≡ 2 * length js = ap length w ∙ both-length js in
    let within : i < length js = omega (arith, len, lt) in
    let here : cable ≡ cable_from (get_or js i d) = is
    ∙ ap cable_from (ap (λ xs. get_or xs (2 * i) d) w ∙ both-at js i d within) in
    n ∙ (ap₂ (λ xs x. xs ++ x ∷ []) so_far here
    ∙ sym (ap (map cable_from) (take_pushed js i (get_or js i d) within (got_same js i d (get_or js i d) within))
    ∙ map-both cable_from (take i js) (get_or js i d ∷ [])))

pub cables_all : (js ways : List Joint) (list : List Cable) (i : ℕ) → ways ≡ both_ways js → length ways / 2 ≤ i
    → list ≡ map cable_from (take i js) → list ≡ map cable_from js
cables_all js ways list i w ge so_far =
    let len : length ways ≡ 2 * length js = ap length w ∙ both-length js in
    so_far ∙ ap (map cable_from) (take_all i js (omega (arith, len, ge)))

-- one number more
range-more : (a n : ℕ) → range_with_len a (suc n) ≡ range_with_len a n ++ (a + n) ∷ []
range-more a zero = ap (λ k. k ∷ []) (let z : a ≡ a + 0 = omega arith in z)
range-more a (suc n) =
    ap (λ xs. a ∷ xs) (range-more (a + 1) n
    ∙ ap (λ k. range_with_len (a + 1) n ++ k ∷ []) (let z : (a + 1) + n ≡ a + suc n = omega arith in z))

first-more : (n : ℕ) → range_with_len 0 (n + 1) ≡ range_with_len 0 n ++ n ∷ []
first-more n =
    ap (range_with_len 0) (let z : n + 1 ≡ suc n = omega arith in z)
    ∙ (range-more 0 n ∙ ap (λ k. range_with_len 0 n ++ k ∷ []) (let z : 0 + n ≡ n = omega arith in z))

single : {X Y : Type 0} (f : X → Option Y) (o : Option Y) → cons_option o [] ≡ option_to_list o
single f None = refl
single f (Some y) = refl

pub hops_more : {Y : Type 0} (f : ℕ → Option Y) (first now new : List Y) (i : ℕ)
    → now ≡ first ++ filter_map f (range_with_len 0 i) → new ≡ now ++ option_to_list (f i)
    → new ≡ first ++ filter_map f (range_with_len 0 (i + 1))
hops_more f first now new i e n =
    n ∙ (ap (λ xs. xs ++ option_to_list (f i)) e
    ∙ (append_assoc first (filter_map f (range_with_len 0 i)) (option_to_list (f i))
    ∙ ap (λ xs. first ++ xs)
    (sym (ap (filter_map f) (first-more i)
    ∙ (filter_map-append f (range_with_len 0 i) (i ∷ [])
    ∙ ap (λ xs. filter_map f (range_with_len 0 i) ++ xs) (single f (f i)))))))

pub rows_more : {Y : Type 0} (f : ℕ → List Y) (now new : List Y) (i : ℕ) → now ≡ flat_map f (range_with_len 0 i)
    → new ≡ now ++ f i → new ≡ flat_map f (range_with_len 0 (i + 1))
rows_more f now new i e n =
    n ∙ (ap (λ xs. xs ++ f i) e
    ∙ sym (ap (flat_map f) (first-more i)
    ∙ (flat_map-append f (range_with_len 0 i) (i ∷ [])
    ∙ ap (λ xs. flat_map f (range_with_len 0 i) ++ xs) (append_none (f i)))))

-- what is gathered of one item more
pub gathered_at : {X Y : Type 0} (f : X → List Y) (xs : List X) (i : ℕ) (d : X) (first now new : List Y)
    → i < length xs → now ≡ first ++ flat_map f (take i xs) → new ≡ now ++ f (get_or xs i d)
    → new ≡ first ++ flat_map f (take (i + 1) xs)
gathered_at f xs i d first now new lt e n =
    let x = get_or xs i d in
    n ∙ (ap (λ ys. ys ++ f x) e ∙ (append_assoc first (flat_map f (take i xs)) (f x)
    ∙ ap (λ ys. first ++ ys)
    (sym (ap (flat_map f) (take_pushed xs i x lt (got_same xs i d x lt))
    ∙ (flat_map-append f (take i xs) (x ∷ []) ∙ ap (λ ys. flat_map f (take i xs) ++ ys) (append_none (f x)))))))

-- the transit entries for one port more
pub transits_more : (w : Wiring) (switch : ℕ) (ends : List SwitchPort) (goals : List Outside) (i : ℕ) (d : Outside)
    (first now new : List PhysEntry)
    → i < length goals → ends ≡ ends_at switch w.cables
    → now ≡ first ++ flat_map (transits_to w switch) (take i goals) → new ≡ now ++ transits_by w ends (get_or goals i d)
    → new ≡ first ++ flat_map (transits_to w switch) (take (i + 1) goals)
transits_more w switch ends goals i d first now new lt e so_far n =
    gathered_at (transits_to w switch) goals i d first now new lt so_far
    (n ∙ ap (λ (xs : List SwitchPort). now ++ transits_by w xs (get_or goals i d)) e)
