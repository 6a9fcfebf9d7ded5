-- The cookies of one switch, in their places.
use Rattle.std.proofs.Common.{◌≡◌, ℕ, ◌<◌, ◌≤◌, zero, suc, Bool, true, false, cond, ◌&&◌, List, [], ◌∷◌, refl, sym, ap}
use Rattle.std.proofs.Common.{◌∙◌, arith, lt-ltb, nat_lt, true≢false}
use Rattle.std.specs.Prelude.{◌==◌, not, filter, Some}
use Rattle.std.specs.Cmp.{nat_cmp_total}
use Rattle.std.specs.List.{AllByRecursion}
use Rattle.std.specs.List.Sorted.{IsStrictlySortedBy}
use Rattle.std.specs.Map.{keys_of, lookup, remove_entry}
use Rattle.std.specs.Ordering.{is_eq, is_le, nat_cmp, ordering_reverse, ordering_then}
use Rattle.std.specs.declared.cmp.Ordering.{Ordering}
use Rattle.std.specs.declared.cmp.Ordering.TheVariants.{Less, Equal, Greater}
use Rattle.std.proofs.lemmas.Cmp.{tied_itself}
use Rattle.std.proofs.lemmas.Map.Lookups.{exact_unsigned}
use Rattle.switch_meaning.specs.Counts.{Cookie}
use Rattle.stats_map.specs.Counting.{Cookies, Place, of_switch, place_cmp}
use Rattle.stats_map.proofs.Adding.{both-equal, equal-is}
use Rattle.stats_map.proofs.Rows.{at, place_total}

-- places that compare equal are the same
place-exact : (a b : Place) → at a b ≡ true → a ≡ b
place-exact a b e =
    let s = both-equal (nat_cmp a.0 b.0) (nat_cmp a.1 b.1) (equal-is (place_cmp a b) e) in
    let m = exact_unsigned a.0 b.0 s.0 in
    let k = exact_unsigned a.1 b.1 s.1 in
    λ i. (m i, k i)

at-self : (a : Place) → at a a ≡ true
at-self a = ap is_eq (tied_itself place_total a)

-- what stands at the places of a switch
abbrev pub part_of : {V : Type 0} → ℕ → List (Place × V) → List (Place × V)
part_of switch es = filter (λ p. p.0.0 == switch) es

-- the places from the first of a switch on
abbrev pub starts : {V : Type 0} → ℕ → Place × V → Bool
starts switch e = is_le (place_cmp (switch, 0) e.0) && not false

low : (b : ℕ) → is_le (nat_cmp 0 b) ≡ true
low zero = refl
low (suc b) = ap (λ t. is_le (cond t Less (cond (0 == suc b) Equal Greater))) (lt-ltb 0 (suc b) (omega arith))

-- the places of the switch are among them
pub own-starts : {V : Type 0} (switch : ℕ) (e : Place × V) → (e.0.0 == switch) ≡ true → starts switch e ≡ true
own-starts switch e t =
    let s : e.0.0 ≡ switch = grind (arith, t) in
    ap (λ n. is_le (ordering_then (nat_cmp switch n) (nat_cmp 0 e.0.1)) && not false) s
    ∙ (ap (λ o. is_le (ordering_then o (nat_cmp 0 e.0.1)) && not false) (tied_itself nat_cmp_total switch)
    ∙ ap (λ b. b && not false) (low e.0.1))

not-own : {V : Type 0} (switch : ℕ) (e : Place × V) → starts switch e ≡ false → (b : Bool) → (e.0.0 == switch) ≡ b
    → b ≡ false
not-own switch e f true t = absurd (true≢false (sym (own-starts switch e t) ∙ f))
not-own switch e f false t = refl

pub same-switch : {V : Type 0} (switch : ℕ) (live : List (Place × V))
    → part_of switch live ≡ part_of switch (filter (starts switch) live)
same-switch switch [] = refl
same-switch switch (x ∷ xs) = by (starts switch x) refl (same-switch switch xs)
  where
    by : (f : Bool) → starts switch x ≡ f → part_of switch xs ≡ part_of switch (filter (starts switch) xs)
        → part_of switch (x ∷ xs) ≡ part_of switch (filter (starts switch) (x ∷ xs))
    by true f rest =
        ap (λ zs. cond (x.0.0 == switch) (x ∷ zs) zs) rest
        ∙ sym (ap (λ b. part_of switch (cond b (x ∷ filter (starts switch) xs) (filter (starts switch) xs))) f)
    by false f rest =
        ap (λ b. cond b (x ∷ part_of switch xs) (part_of switch xs)) (not-own switch x f (x.0.0 == switch) refl)
        ∙ (rest ∙ sym (ap (λ b. part_of switch (cond b (x ∷ filter (starts switch) xs) (filter (starts switch) xs))) f))

-- the first is of the switch
pub first-is : {V : Type 0} (switch : ℕ) (live part rest : List (Place × V)) (place : Place) (c : V)
    → part ≡ filter (starts switch) live → part ≡ (place, c) ∷ rest → (place.0 == switch) ≡ true
    → part_of switch live ≡ (place, c) ∷ part_of switch rest
first-is switch live part rest place c is first t =
    same-switch switch live
    ∙ (ap (part_of switch) (sym is ∙ first)
    ∙ ap (λ b. cond b ((place, c) ∷ part_of switch rest) (part_of switch rest)) t)

-- there is none
pub none-is : {V : Type 0} (switch : ℕ) (live part : List (Place × V)) → part ≡ filter (starts switch) live → part ≡ []
    → part_of switch live ≡ []
none-is switch live part is none = same-switch switch live ∙ ap (part_of switch) (sym is ∙ none)

-- a place that is not before another is of no lower switch
below : (a c : ℕ) (o : Ordering) → is_le (ordering_then (nat_cmp a c) o) ≡ true → a ≤ c
below a c o t = by (nat_lt c a) refl
  where
    by : (b : Bool) → nat_lt c a ≡ b → a ≤ c
    by false f = grind (arith, f)
    by true f =
        let less : nat_cmp c a ≡ Less = ap (λ b. cond b Less (cond (c == a) Equal Greater)) f in
        let greater : nat_cmp a c ≡ Greater = nat_cmp_total.antisymm a c ∙ ap ordering_reverse less in
        absurd (true≢false (sym t ∙ ap (λ r. is_le (ordering_then r o)) greater))

differs : (a b : ℕ) → a < b → (b == a) ≡ false
differs a b l = grind (arith, l)

-- all after a place of a higher switch are of higher ones
pub all-above : {V : Type 0} (switch : ℕ) (k : Place) (xs : List (Place × V)) → switch < k.0
    → AllByRecursion (λ (z : Place). place_cmp k z ≡ Less) (keys_of xs) → part_of switch xs ≡ []
all-above switch k [] l a = refl
all-above switch k (x ∷ xs) l a =
    let le : k.0 ≤ x.0.0 = below k.0 x.0.0 (nat_cmp k.1 x.0.1) (ap is_le a.0) in
    let more : switch < x.0.0 = omega (arith, le, l) in
    ap (λ b. cond b (x ∷ part_of switch xs) (part_of switch xs)) (differs switch x.0.0 more)
    ∙ all-above switch k xs l a.1

and-true : (b : Bool) → (b && not false) ≡ true → b ≡ true
and-true true e = refl
and-true false e = absurd (true≢false (sym e))

pub above : {V : Type 0} (switch : ℕ) (e : Place × V) → starts switch e ≡ true → (e.0.0 == switch) ≡ false
    → switch < e.0.0
above switch e t f =
    let le : switch ≤ e.0.0 = below switch e.0.0 (nat_cmp 0 e.0.1) (and-true (is_le (place_cmp (switch, 0) e.0)) t) in
    grind (arith, le, f)

first-same : {V : Type 0} (x y : Place × V) (xs ys : List (Place × V)) → x ∷ xs ≡ y ∷ ys → x ≡ y
first-same x y xs ys e = cc

-- the first is of a higher switch
pub later-is : {V : Type 0} (switch : ℕ) (live rest : List (Place × V)) (place : Place) (c : V)
    → IsStrictlySortedBy place_cmp (keys_of live) → filter (starts switch) live ≡ (place, c) ∷ rest
    → (place.0 == switch) ≡ false
    → part_of switch live ≡ []
unfolding IsStrictlySortedBy
later-is switch [] rest place c r e f = refl
later-is switch (x ∷ xs) rest place c r e f = by (starts switch x) refl (λ d. later-is switch xs rest place c r.1 d f)
  where
    by : (b : Bool) → starts switch x ≡ b → (filter (starts switch) xs ≡ (place, c) ∷ rest → part_of switch xs ≡ [])
        → part_of switch (x ∷ xs) ≡ []
    by true t go =
        let is : x ≡ (place, c) = first-same x (place, c) (filter (starts switch) xs) rest
        (sym (ap (λ b. cond b (x ∷ filter (starts switch) xs) (filter (starts switch) xs)) t) ∙ e) in
        let other : (x.0.0 == switch) ≡ false = ap (λ z. z.0.0 == switch) is ∙ f in
        ap (λ b. cond b (x ∷ part_of switch xs) (part_of switch xs)) other
        ∙ all-above switch x.0 xs (above switch x t other) r.0
    by false t go =
        ap (λ b. cond b (x ∷ part_of switch xs) (part_of switch xs)) (not-own switch x t (x.0.0 == switch) refl)
        ∙ go (sym (ap (λ b. cond b (x ∷ filter (starts switch) xs) (filter (starts switch) xs)) t) ∙ e)

-- the first cookie of a switch is found at its place, and the others are left without it
pub record IsAtFront (switch : ℕ) (live : Cookies) (place : Place) (c : Cookie) (rest : Cookies) : Type 0 where
  pub own : (place.0 == switch) ≡ true
  pub found : lookup (at place) live ≡ Some c
  pub left : of_switch switch (remove_entry (at place) live) ≡ rest

pub at-front : (switch : ℕ) (live : Cookies) (place : Place) (c : Cookie) (rest : Cookies)
    → of_switch switch live ≡ (place, c) ∷ rest → IsAtFront switch live place c rest
at-front switch [] place c rest e = cc
at-front switch (x ∷ xs) place c rest e = by (x.0.0 == switch) refl (λ d. at-front switch xs place c rest d)
  where
    both : (x y : Place × Cookie) (xs ys : Cookies) → x ∷ xs ≡ y ∷ ys → (x ≡ y) × (xs ≡ ys)
    both x y xs ys e = (first-same x y xs ys e, rest-same e)
      where
        rest-same : x ∷ xs ≡ y ∷ ys → xs ≡ ys
        rest-same e = cc

    none-at : (x.0.0 == switch) ≡ false → (place.0 == switch) ≡ true → (b : Bool) → at place x.0 ≡ b → b ≡ false
    none-at f t true g = absurd (true≢false (sym t ∙ (ap (λ (z : Place). z.0 == switch) (place-exact place x.0 g) ∙ f)))
    none-at f t false g = refl

    by : (b : Bool) → (x.0.0 == switch) ≡ b
        → (of_switch switch xs ≡ (place, c) ∷ rest → IsAtFront switch xs place c rest)
        → IsAtFront switch (x ∷ xs) place c rest
    by true t go =
        let s = both x (place, c) (of_switch switch xs) rest
        (sym (ap (λ b. cond b (x ∷ of_switch switch xs) (of_switch switch xs)) t) ∙ e) in
        let here : at place x.0 ≡ true = ap (λ (z : Place × Cookie). at place z.0) s.0 ∙ at-self place in
        record {
          own = ap (λ (z : Place × Cookie). z.0.0 == switch) (sym s.0) ∙ t;
          found = ap (λ b. cond b (Some x.1) (lookup (at place) xs)) here ∙ ap (λ (z : Place × Cookie). Some z.1) s.0;
          left = ap (λ b. of_switch switch (cond b xs (x ∷ remove_entry (at place) xs))) here ∙ s.1;
        }
    by false t go =
        let k = go (sym (ap (λ b. cond b (x ∷ of_switch switch xs) (of_switch switch xs)) t) ∙ e) in
        let gone : at place x.0 ≡ false = none-at t k.own (at place x.0) refl in
        record {
          own = k.own;
          found = ap (λ b. cond b (Some x.1) (lookup (at place) xs)) gone ∙ k.found;
          left =
              ap (λ b. of_switch switch (cond b xs (x ∷ remove_entry (at place) xs))) gone
              ∙ (ap (λ b. cond b (x ∷ of_switch switch (remove_entry (at place) xs))
              (of_switch switch (remove_entry (at place) xs))) t ∙ k.left);
        }

pub same-is : (a b : ℕ) → a ≡ b → (a == b) ≡ true
same-is a b e = grind (arith, e)

pub other-is : (a b : ℕ) → (a ≡ b → ⊥) → (a == b) ≡ false
other-is a b f = by (a == b) refl
  where
    by : (d : Bool) → (a == b) ≡ d → (a == b) ≡ false
    by true t = let e : a ≡ b = grind (arith, t) in absurd (f e)
    by false t = t
