-- The tags of outside ports: a number of its own for each port of a spread virtual switch.
use Rattle.std.proofs.Common.{◌≡◌, ◌∙◌, sym, ap, subst, ℕ, suc, ◌+◌, ◌<◌, ◌≤◌, ◌==◌, ◌&&◌, ◌||◌, not, Bool, true, false}
use Rattle.std.proofs.Common.{cond, List, [], ◌∷◌, length, Option, Some, None, map, inl, inr, ◌⊎◌, arith, refl}
use Rattle.std.specs.Prelude.{slice_get, filter, is_some, IfSome, nat_lt, if◌then◌else◌, All}
use Rattle.std.specs.List.{AllByRecursion, list_any}
use Rattle.std.specs.Map.{lookup}
use Rattle.std.proofs.lemmas.Bool.{eqb-true, eq-eqb, cases_eq, cases_lt}
use Rattle.std.proofs.lemmas.Bool.Decides.{nat_tests}
use Rattle.std.proofs.lemmas.List.Elements.{All-from_recursion}
use Rattle.agreement.proofs.Cables.{found-there}
use Rattle.policy_expr.specs.Policy.{Policy}
use Rattle.policy_meaning.proofs.Booleans.{split_and, join_and, fails, some_injective, or_right}
use Rattle.policy_meaning.specs.Networks.{switch_spread}
use Rattle.switch_meaning.specs.Fixed.{AreTagsInRange}
use Rattle.switch_meaning.specs.Wirings.{outside_at}
use Rattle.switch_meaning.specs.declared.wiring.Outside.{Outside}
use Rattle.inner_paths.specs.Tags.{stands_before, place_of, tag_of}
use Rattle.virtual_topology.specs.declared.plan.TopologyPlan.{TopologyPlan}
use Rattle.virtual_topology.specs.Faults.{fault_of}
use Rattle.virtual_topology.specs.Rows.{Spot, same_spot}
use Rattle.virtual_topology.specs.Wires.{Joint, outside_joints, outside_of, is_spread_of}
use Rattle.virtual_topology.proofs.Counted.{few_outside}
use Rattle.policy_setting.specs.Premises.{HaveNumbers}
use Rattle.policy_setting.specs.Settings.{switches}
use Rattle.policy_setting.specs.Wirings.{outside, wiring}
use Rattle.policy_setting.proofs.Parts.{all_weaker, all_of_two, mapped_all}
use Rattle.policy_setting.proofs.Linked.{listed_key, same_self}
use Rattle.policy_setting.proofs.Placing.{found_is}
use Rattle.policy_setting.proofs.Mixed.{spread_is}

-- each outside port is found under its numbers
first_or : (a b : Bool) → a ≡ true → a || b ≡ true
first_or true b e = refl
first_or false b e = absurd (cc)

all_keys : (js : List Joint) → AllByRecursion (λ (j : Joint). list_any (λ (w : Joint). same_spot j.0 w.0) js ≡ true) js
all_keys [] = tt
all_keys (j ∷ js) = (
  first_or (same_spot j.0 j.0) _ (same_self j.0),
  all_weaker (λ (k : Joint). list_any (λ (w : Joint). same_spot k.0 w.0) js ≡ true)
      (λ (k : Joint). list_any (λ (w : Joint). same_spot k.0 w.0) (j ∷ js) ≡ true)
      (λ k e. or_right (same_spot k.0 j.0) _ e) js (all_keys js),
)

all_outside : (plan : TopologyPlan)
    → AllByRecursion (λ (j : Joint). is_some (outside_of plan j.0.0 j.0.1) ≡ true) (outside_joints plan)
all_outside plan = all_weaker (λ (j : Joint). list_any (λ (w : Joint). same_spot j.0 w.0) (outside_joints plan) ≡ true)
    (λ (j : Joint). is_some (outside_of plan j.0.0 j.0.1) ≡ true) (λ j e. listed_key j.0 (outside_joints plan) e)
    (outside_joints plan) (all_keys (outside_joints plan))

-- a port has a tag where its virtual switch is spread
tagged : (spread there : Bool) (n : ℕ) → there ≡ true → is_some (if spread && there then Some n else None) ≡ spread
tagged true true n e = refl
tagged true false n e = absurd (cc)
tagged false there n e = refl

pub tags : (plan : TopologyPlan) (exprs : List Policy) (seen : List Bool)
    → AllByRecursion (λ (o : Outside). is_some o.tag ≡ switch_spread (slice_get (switches plan exprs seen) o.v))
    (wiring plan).outside
tags plan exprs seen = mapped_all (outside plan)
    (λ (o : Outside). is_some o.tag ≡ switch_spread (slice_get (switches plan exprs seen) o.v)) (outside_joints plan)
    (all_weaker (λ (j : Joint). is_some (outside_of plan j.0.0 j.0.1) ≡ true)
    (λ (j : Joint). is_some (tag_of plan j.0.0 j.0.1) ≡ switch_spread (slice_get (switches plan exprs seen) j.0.0))
    (λ j e. tagged (is_spread_of plan j.0.0) (is_some (outside_of plan j.0.0 j.0.1)) (place_of plan j.0.0 j.0.1) e
    ∙ sym (spread_is plan exprs seen j.0.0)) (outside_joints plan) (all_outside plan))

few_next : {A : Type 0} (x : A) (xs : List A) (b : Bool) (n : ℕ) → length xs ≤ n → length (cond b (x ∷ xs) xs) ≤ suc n
few_next x xs true n h = omega arith
few_next x xs false n h = omega arith

-- tags are numbers of VLANs
few_kept : {A : Type 0} (t : A → Bool) (xs : List A) → length (filter t xs) ≤ length xs
few_kept t [] = omega arith
few_kept t (x ∷ xs) = few_next x (filter t xs) (t x) (length xs) (few_kept t xs)

tag_small : (plan : TopologyPlan) → fault_of plan ≡ None → (v p : ℕ) (b : Bool)
    → IfSome (if b then Some (place_of plan v p) else None) (λ t. t < 4096)
tag_small plan e v p true = omega (arith, few_outside plan e, few_kept (stands_before plan v p) (outside_joints plan))
tag_small plan e v p false = tt

all_small : (plan : TopologyPlan) → fault_of plan ≡ None → (js : List Joint)
    → AllByRecursion (λ (j : Joint). IfSome (tag_of plan j.0.0 j.0.1) (λ t. t < 4096)) js
all_small plan e [] = tt
all_small plan e (j ∷ js) = (
  tag_small plan e j.0.0 j.0.1 (is_spread_of plan j.0.0 && is_some (outside_of plan j.0.0 j.0.1)),
  all_small plan e js,
)

pub tags_small : (plan : TopologyPlan) → fault_of plan ≡ None → AreTagsInRange (wiring plan)
tags_small plan e = All-from_recursion (λ (o : Outside). IfSome o.tag (λ t. t < 4096)) (wiring plan).outside
    (mapped_all (outside plan) (λ (o : Outside). IfSome o.tag (λ t. t < 4096)) (outside_joints plan)
    (all_small plan e (outside_joints plan)))

-- a port stands before another, by its virtual switch and then by its number
abbrev Before : ℕ → ℕ → ℕ → ℕ → Type 0
Before v p u q = (v < u) ⊎ ((v ≡ u) × (p < q))

order : (v p u q : ℕ) → ((v ≡ u) × (p ≡ q)) ⊎ (Before v p u q ⊎ Before u q v p)
order v p u q = elim (cases_lt v u) [
  | inl a ↦ inr (inl (inl a))
  | inr a ↦ elim (cases_lt u v) [
    | inl b ↦ inr (inr (inl b))
    | inr b ↦
        let same : v ≡ u = omega arith in
        elim (cases_lt p q) [
          | inl c ↦ inr (inl (inr (same, c)))
          | inr c ↦ elim (cases_lt q p) [
            | inl d ↦ inr (inr (inr (sym same, d)))
            | inr d ↦ let other : p ≡ q = omega arith in inl (same, other)
          ]
        ]
  ]
]

-- what passes one test passes the other, and something passes the other alone
pub record PassMore {A : Type 0} (f g : A → Bool) (xs : List A) : Type 0 where
  pub more : (x : A) → f x ≡ true → g x ≡ true
  pub one : list_any (λ x. not (f x) && g x) xs ≡ true

at_least_next : {A : Type 0} (x : A) (xs ys : List A) (a b : Bool) → (a ≡ true → b ≡ true) → length xs ≤ length ys
    → length (cond a (x ∷ xs) xs) ≤ length (cond b (x ∷ ys) ys)
at_least_next x xs ys true true h le = omega arith
at_least_next x xs ys true false h le = let e = h refl in absurd (cc)
at_least_next x xs ys false true h le = omega arith
at_least_next x xs ys false false h le = omega arith

at_least : {A : Type 0} (f g : A → Bool) → ((x : A) → f x ≡ true → g x ≡ true) → (xs : List A)
    → length (filter f xs) ≤ length (filter g xs)
at_least f g h [] = omega arith
at_least f g h (x ∷ xs) = at_least_next x (filter f xs) (filter g xs) (f x) (g x) (h x) (at_least f g h xs)

fewer_next : {A : Type 0} (x : A) (xs ys : List A) (a b c : Bool) → (a ≡ true → b ≡ true) → (not a && b) || c ≡ true
    → length xs ≤ length ys → (c ≡ true → length xs < length ys)
    → length (cond a (x ∷ xs) xs) < length (cond b (x ∷ ys) ys)
fewer_next x xs ys true true c h e le f = let k = f e in omega arith
fewer_next x xs ys true false c h e le f = let k = h refl in absurd (cc)
fewer_next x xs ys false true c h e le f = omega arith
fewer_next x xs ys false false c h e le f = f e

fewer : {A : Type 0} (f g : A → Bool) (xs : List A) → PassMore f g xs → length (filter f xs) < length (filter g xs)
fewer f g [] h = absurd (let e = h.one in cc)
fewer f g (x ∷ xs) h = fewer_next x (filter f xs) (filter g xs) (f x) (g x) (list_any (λ x. not (f x) && g x) xs)
    (h.more x) h.one (at_least f g h.more xs) (λ e. fewer f g xs (record { more = h.more; one = e }))

-- the place of a port is after those of the ports before it
before_more : (s : Bool) (n m v p u q : ℕ) → Before v p u q → s && (nat_lt n v || ((n == v) && nat_lt m p)) ≡ true
    → s && (nat_lt n u || ((n == u) && nat_lt m q)) ≡ true
before_more s n m v p u q (inl a) e = grind (arith, nat_tests)
before_more s n m v p u q (inr a) e = grind (arith, nat_tests)

before_itself : (s : Bool) (v p u q : ℕ) → s ≡ true → Before v p u q
    → not (s && (nat_lt v v || ((v == v) && nat_lt p p))) && (s && (nat_lt v u || ((v == u) && nat_lt p q))) ≡ true
before_itself s v p u q e (inl a) = grind (arith, nat_tests)
before_itself s v p u q e (inr a) = grind (arith, nat_tests)

abbrev Alone : TopologyPlan → ℕ → ℕ → ℕ → ℕ → Joint → Bool
Alone plan v p u q w = not (stands_before plan v p w) && stands_before plan u q w

at_itself : (plan : TopologyPlan) (v p u q : ℕ) → is_spread_of plan v ≡ true → Before v p u q → (w : Joint)
    → same_spot (v, p) w.0 ≡ true → Alone plan v p u q w ≡ true
at_itself plan v p u q s b w e =
    let k = split_and (v == w.0.0) (p == w.0.1) e in
    let a : v ≡ w.0.0 = eqb-true v w.0.0 k.0 in
    let c : p ≡ w.0.1 = eqb-true p w.0.1 k.1 in
    subst (λ (z : Spot). Alone plan v p u q (z, w.1) ≡ true) (λ i. (a i, c i))
    (before_itself (is_spread_of plan v) v p u q s b)

any_more_next : (a b c d : Bool) → (a ≡ true → b ≡ true) → a || c ≡ true → (c ≡ true → d ≡ true) → b || d ≡ true
any_more_next true b c d h e f = first_or b d (h refl)
any_more_next false b c d h e f = or_right b d (f e)

any_more : {A : Type 0} (f g : A → Bool) → ((x : A) → f x ≡ true → g x ≡ true) → (xs : List A) → list_any f xs ≡ true
    → list_any g xs ≡ true
any_more f g h [] e = absurd (cc)
any_more f g h (x ∷ xs) e = any_more_next (f x) (g x) (list_any f xs) (list_any g xs) (h x) e (λ k. any_more f g h xs k)

later_place : (plan : TopologyPlan) (v p u q : ℕ) → is_spread_of plan v ≡ true
    → list_any (λ (w : Joint). same_spot (v, p) w.0) (outside_joints plan) ≡ true → Before v p u q
    → place_of plan v p < place_of plan u q
later_place plan v p u q s e b =
    let more : PassMore (stands_before plan v p) (stands_before plan u q) (outside_joints plan) = record {
      more = λ w k. before_more (is_spread_of plan w.0.0) w.0.0 w.0.1 v p u q b k;
      one = any_more (λ (w : Joint). same_spot (v, p) w.0) (Alone plan v p u q) (at_itself plan v p u q s b)
          (outside_joints plan) e;
    } in
    omega (arith, fewer (stands_before plan v p) (stands_before plan u q) (outside_joints plan) more)

-- what is known of a port of the wiring with a tag
record IsTagged (plan : TopologyPlan) (v p t : ℕ) : Type 0 where
  spread : is_spread_of plan v ≡ true
  place : place_of plan v p ≡ t

tag_by : (a b : Bool) (plan : TopologyPlan) (v p t : ℕ) → is_spread_of plan v ≡ a
    → (if a && b then Some (place_of plan v p) else None) ≡ Some t → IsTagged plan v p t
tag_by true true plan v p t s e = record { spread = s; place = some_injective e }
tag_by true false plan v p t s e = absurd (cc)
tag_by false b plan v p t s e = absurd (cc)

tag_is : (plan : TopologyPlan) (v p t : ℕ) → tag_of plan v p ≡ Some t → IsTagged plan v p t
tag_is plan v p t e = tag_by (is_spread_of plan v) (is_some (outside_of plan v p)) plan v p t refl e

-- a port of the wiring: its tag, and that it is listed
record IsTaggable (plan : TopologyPlan) (o : Outside) : Type 0 where
  tag : o.tag ≡ tag_of plan o.v o.port
  listed : list_any (λ (w : Joint). same_spot (o.v, o.port) w.0) (outside_joints plan) ≡ true

taggable : (plan : TopologyPlan) → AllByRecursion (IsTaggable plan) (wiring plan).outside
taggable plan = mapped_all (outside plan) (IsTaggable plan) (outside_joints plan)
    (all_weaker (λ (j : Joint). list_any (λ (w : Joint). same_spot j.0 w.0) (outside_joints plan) ≡ true)
    (λ (j : Joint). IsTaggable plan (outside plan j)) (λ j e. record { tag = refl; listed = e }) (outside_joints plan)
    (all_keys (outside_joints plan)))

one_tag : (plan : TopologyPlan) (v p u q t : ℕ) → IsTagged plan v p t → IsTagged plan u q t
    → list_any (λ (w : Joint). same_spot (v, p) w.0) (outside_joints plan) ≡ true
    → list_any (λ (w : Joint). same_spot (u, q) w.0) (outside_joints plan) ≡ true → (v ≡ u) × (p ≡ q)
one_tag plan v p u q t a b e f = elim (order v p u q) [
  | inl same ↦ same
  | inr (inl less) ↦ let lt = later_place plan v p u q a.spread e less in absurd (omega (arith, a.place, b.place))
  | inr (inr less) ↦ let lt = later_place plan u q v p b.spread f less in absurd (omega (arith, a.place, b.place))
]

pub own_tags : (plan : TopologyPlan) (v p u q t : ℕ) (a b : Outside) → outside_at (wiring plan) v p ≡ Some a
    → outside_at (wiring plan) u q ≡ Some b → a.tag ≡ Some t → b.tag ≡ Some t → (v ≡ u) × (p ≡ q)
own_tags plan v p u q t a b e f k l =
    let x = found_is (IsTaggable plan) (wiring plan).outside v p a (taggable plan) e in
    let y = found_is (IsTaggable plan) (wiring plan).outside u q b (taggable plan) f in
    let m = (found-there v p (wiring plan).outside a e).0 in
    let n = (found-there u q (wiring plan).outside b f).0 in
    let same = one_tag plan a.v a.port b.v b.port t (tag_is plan a.v a.port t (sym x.tag ∙ k))
    (tag_is plan b.v b.port t (sym y.tag ∙ l)) x.listed y.listed in
    (sym m.0 ∙ (same.0 ∙ n.0), sym m.1 ∙ (same.1 ∙ n.1))
