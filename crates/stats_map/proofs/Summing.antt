-- The sums of leaves are those of the cookies that matter.
use Rattle.std.proofs.Common.{◌≡◌, ℕ, ◌+◌, ◌<◌, Bool, true, false, cond, ◌||◌, List, [], ◌∷◌, refl, sym, ap, subst, ◌∙◌}
use Rattle.std.proofs.Common.{arith, count_by, sum_by, nat_lt, lt-ltb, ltb-true, true≢false}
use Rattle.std.specs.Prelude.{IsSome, is_some, Option, Some, None, option_and_then, if◌then◌else◌}
use Rattle.std.specs.List.{AllByRecursion, list_any}
use Rattle.std.proofs.lemmas.List.Sums.{sum_by-cons}
use Rattle.cv_io.specs.Leaves.{same_leaf}
use Rattle.cv_io.specs.declared.leaf.Leaf.{Leaf}
use Rattle.switch_meaning.specs.Counts.{Cookie, bytes_for, names, packets_for}
use Rattle.stats_map.specs.InsideSums.{AreSums, HappenedTo, HasNumbers, IsSum, Sums, changed_by, forgotten_in, no_sum}
use Rattle.stats_map.specs.InsideSums.{sum_at, total_in}
use Rattle.stats_map.specs.declared.sum.Event.{Event}
use Rattle.stats_map.specs.declared.sum.Event.TheVariants.{Begun}
use Rattle.stats_map.specs.declared.sum.Sum.{Sum}

-- the second list has the cookies of the first, and one more
abbrev pub Gains : Cookie → List Cookie → List Cookie → Type 0
Gains c xs ys = (f : Cookie → ℕ) → sum_by f ys ≡ sum_by f xs + f c

abbrev pub counts : Leaf → Cookie → ℕ
counts leaf c = cond (names leaf c) 1 0

-- what is named is counted

pub any-counted : (p : Cookie → Bool) (xs : List Cookie) → list_any p xs ≡ nat_lt 0 (count_by p xs)
any-counted p [] = refl
any-counted p (x ∷ xs) = by (p x) (any-counted p xs) (sum_by-cons (λ y. cond (p y) 1 0) x xs)
  where
    by : (b : Bool) → list_any p xs ≡ nat_lt 0 (count_by p xs) → count_by p (x ∷ xs) ≡ cond b 1 0 + count_by p xs
        → (b || list_any p xs) ≡ nat_lt 0 (count_by p (x ∷ xs))
    by true e s = grind (arith, s)
    by false e s = e ∙ ap (nat_lt 0) (let z : count_by p xs ≡ count_by p (x ∷ xs) = omega (arith, s) in z)

pub some-same : {A : Type 0} {x y : A} → Some x ≡ Some y → x ≡ y
some-same e = cc

-- a leaf that no cookie names counts nothing
pub unnamed : (leaf : Leaf) (live : List Cookie) → list_any (names leaf) live ≡ false
    → (count_by (names leaf) live ≡ 0) × (sum_by (packets_for leaf) live ≡ 0) × (sum_by (bytes_for leaf) live ≡ 0)
unnamed leaf [] n = (refl, refl, refl)
unnamed leaf (c ∷ cs) n = by (names leaf c) refl n (λ m. unnamed leaf cs m)
  where
    by : (b : Bool) → names leaf c ≡ b → (b || list_any (names leaf) cs) ≡ false
        → (list_any (names leaf) cs ≡ false → (count_by (names leaf) cs ≡ 0) × (sum_by (packets_for leaf) cs ≡ 0)
        × (sum_by (bytes_for leaf) cs ≡ 0))
        → (count_by (names leaf) (c ∷ cs) ≡ 0) × (sum_by (packets_for leaf) (c ∷ cs) ≡ 0)
        × (sum_by (bytes_for leaf) (c ∷ cs) ≡ 0)
    by true e m rest = cc
    by false e m rest =
        let r = rest m in (
          sum_by-cons (counts leaf) c cs ∙ (ap (λ b. cond b 1 0 + count_by (names leaf) cs) e ∙ zero-more r.0),
          sum_by-cons (packets_for leaf) c cs
              ∙ (ap (λ b. (if b then c.numbers.packets else 0) + sum_by (packets_for leaf) cs) e ∙ zero-more r.1),
          sum_by-cons (bytes_for leaf) c cs
              ∙ (ap (λ b. (if b then c.numbers.bytes else 0) + sum_by (bytes_for leaf) cs) e ∙ zero-more r.2),
        )
      where
        zero-more : {n : ℕ} → n ≡ 0 → 0 + n ≡ 0
        zero-more e = omega (arith, e)

-- what a cookie counts for a leaf

pub when-named : (leaf : Leaf) (c : Cookie) → names leaf c ≡ true
    → (counts leaf c ≡ 1) × (packets_for leaf c ≡ c.numbers.packets) × (bytes_for leaf c ≡ c.numbers.bytes)
when-named leaf c t = (
  ap (λ b. cond b 1 0) t,
  ap (λ b. if b then c.numbers.packets else 0) t,
  ap (λ b. if b then c.numbers.bytes else 0) t,
)

pub when-not : (leaf : Leaf) (c : Cookie) → names leaf c ≡ false
    → (counts leaf c ≡ 0) × (packets_for leaf c ≡ 0) × (bytes_for leaf c ≡ 0)
when-not leaf c t = (
  ap (λ b. cond b 1 0) t,
  ap (λ b. if b then c.numbers.packets else 0) t,
  ap (λ b. if b then c.numbers.bytes else 0) t,
)

-- sums of new leaves
pub sums-added : (live : List Cookie) (sums sums' : Sums)
    → ((leaf : Leaf) (s : Sum) → sum_at leaf sums ≡ Some s → sum_at leaf sums' ≡ Some s)
    → ((leaf : Leaf) (s : Sum) → sum_at leaf sums' ≡ Some s → sum_at leaf sums ≡ None → s ≡ no_sum) → AreSums live sums
    → AreSums live sums'
sums-added live sums sums' kept fresh a = record {
  each = λ leaf s e. old leaf s e (sum_at leaf sums) refl;
  summed = λ leaf t. still leaf (sum_at leaf sums) refl (a.summed leaf t);
  numbers = a.numbers;
}
  where
    none : (leaf : Leaf) → sum_at leaf sums ≡ None → (b : Bool) → list_any (names leaf) live ≡ b → b ≡ false
    none leaf n true e = absurd (true≢false (sym (subst IsSome n (a.summed leaf e))))
    none leaf n false e = refl

    old : (leaf : Leaf) (s : Sum) → sum_at leaf sums' ≡ Some s → (o : Option Sum) → sum_at leaf sums ≡ o
        → IsSum live leaf s
    old leaf s e None n =
        let z = unnamed leaf live (none leaf n (list_any (names leaf) live) refl) in
        subst (IsSum live leaf) (sym (fresh leaf s e n))
        (record {
          live_count = sym z.0;
          live_packets = sym z.1;
          live_bytes = sym z.2;
          named = λ t. absurd (true≢false (sym t));
        })
    old leaf s e (Some s0) f = subst (IsSum live leaf) (some-same (sym (kept leaf s0 f) ∙ e)) (a.each leaf s0 f)

    still : (leaf : Leaf) (o : Option Sum) → sum_at leaf sums ≡ o → IsSome (sum_at leaf sums)
        → IsSome (sum_at leaf sums')
    still leaf None e t = absurd (true≢false (sym (subst IsSome e t)))
    still leaf (Some s) e t = ap is_some (kept leaf s e)

-- a cookie that doesn't name the leaf
pub other-gained : (c : Cookie) (leaf : Leaf) (xs ys : List Cookie) (s : Sum) → Gains c xs ys → names leaf c ≡ false
    → IsSum xs leaf s → IsSum ys leaf s
other-gained c leaf xs ys s g n i =
    let w = when-not leaf c n in
    let a = g (counts leaf) in
    let b = g (packets_for leaf) in
    let d = g (bytes_for leaf) in
    let e = i.live_count in
    let f = i.live_packets in
    let h = i.live_bytes in
    record {
      live_count = omega (arith, a, e, w.0);
      live_packets = omega (arith, b, f, w.1);
      live_bytes = omega (arith, d, h, w.2);
      named = i.named;
    }

pub other-lost : (c : Cookie) (leaf : Leaf) (xs ys : List Cookie) (s : Sum) → Gains c xs ys → names leaf c ≡ false
    → IsSum ys leaf s → IsSum xs leaf s
other-lost c leaf xs ys s g n i =
    let w = when-not leaf c n in
    let a = g (counts leaf) in
    let b = g (packets_for leaf) in
    let d = g (bytes_for leaf) in
    let e = i.live_count in
    let f = i.live_packets in
    let h = i.live_bytes in
    record {
      live_count = omega (arith, a, e, w.0);
      live_packets = omega (arith, b, f, w.1);
      live_bytes = omega (arith, d, h, w.2);
      named = i.named;
    }

-- a leaf that is named in one of two lists

pub named-gained : (c : Cookie) (leaf : Leaf) (xs ys : List Cookie) → Gains c xs ys → list_any (names leaf) xs ≡ true
    → list_any (names leaf) ys ≡ true
named-gained c leaf xs ys g t =
    let a = g (counts leaf) in
    let x = any-counted (names leaf) xs in
    let y = any-counted (names leaf) ys in
    let lt : 0 < count_by (names leaf) xs = ltb-true 0 (count_by (names leaf) xs) (sym x ∙ t) in
    y ∙ lt-ltb 0 (count_by (names leaf) ys) (omega (arith, a, lt))

pub named-before : (c : Cookie) (leaf : Leaf) (xs ys : List Cookie) → Gains c xs ys → names leaf c ≡ false
    → list_any (names leaf) ys ≡ list_any (names leaf) xs
named-before c leaf xs ys g n =
    let a = g (counts leaf) in
    let w = when-not leaf c n in
    let same : count_by (names leaf) ys ≡ count_by (names leaf) xs = omega (arith, a, w.0) in
    any-counted (names leaf) ys ∙ (ap (nat_lt 0) same ∙ sym (any-counted (names leaf) xs))

pub ltb-false' : (n : ℕ) → nat_lt 0 n ≡ false → n ≡ 0
ltb-false' n e = grind (arith, e)

-- an installed cookie

pub sum-named : (leaf : Leaf) (s : Sum) (o : Option Sum) (event : Event) → option_and_then (changed_by event) o ≡ Some s
    → (s0 : Sum) × (o ≡ Some s0) × (changed_by event s0 ≡ Some s)
sum-named leaf s None event e = cc
sum-named leaf s (Some s0) event e = (s0, refl, e)

pub if-true : {A : Type 0} (b : Bool) (x y z : A) → b ≡ true → (if b then x else y) ≡ z → x ≡ z
if-true true x y z t e = e
if-true false x y z t e = absurd (true≢false (sym t))

pub if-false : {A : Type 0} (b : Bool) (x y z : A) → b ≡ false → (if b then x else y) ≡ z → y ≡ z
if-false true x y z t e = absurd (true≢false t)
if-false false x y z t e = e

-- the cookie has no numbers yet
abbrev pub IsFresh : Cookie → Type 0
IsFresh c = (c.numbers.packets ≡ 0) × (c.numbers.bytes ≡ 0)

pub sums-begun : (c : Cookie) (live live' : List Cookie) (sums sums' : Sums) → IsFresh c → Gains c live live'
    → AllByRecursion HasNumbers live' → HappenedTo Begun c.ancestry sums sums'
    → ((leaf : Leaf) → names leaf c ≡ true → IsSome (sum_at leaf sums)) → AreSums live sums → AreSums live' sums'
sums-begun c live live' sums sums' fresh g n happened there a = record {
  each = λ leaf s e. by leaf s (names leaf c) refl (sym (happened leaf) ∙ e);
  summed = λ leaf t. still leaf (names leaf c) refl t;
  numbers = n;
}
  where
    begun : (leaf : Leaf) (s0 s : Sum) → names leaf c ≡ true → changed_by Begun s0 ≡ Some s → IsSum live leaf s0
        → IsSum live' leaf s
    begun leaf s0 s t e i =
        let w = when-named leaf c t in
        let is : record s0 { live = s0.live + 1 } ≡ s = some-same e in
        let x = g (counts leaf) in
        let y = g (packets_for leaf) in
        let z = g (bytes_for leaf) in
        let l = i.live_count in
        let p = i.live_packets in
        let b = i.live_bytes in
        subst (IsSum live' leaf) is
        (record {
          live_count = omega (arith, x, l, w.0);
          live_packets = omega (arith, y, p, w.1, fresh.0);
          live_bytes = omega (arith, z, b, w.2, fresh.1);
          named = λ u. omega arith;
        })

    by : (leaf : Leaf) (s : Sum) (b : Bool) → names leaf c ≡ b
        → (if list_any (same_leaf leaf) c.ancestry then option_and_then (changed_by Begun) (sum_at leaf sums)
        else sum_at leaf sums) ≡ Some s → IsSum live' leaf s
    by leaf s true t e =
        let f = sum-named leaf s (sum_at leaf sums) Begun
        (if-true (names leaf c) (option_and_then (changed_by Begun) (sum_at leaf sums)) (sum_at leaf sums) (Some s)
        t e) in
        begun leaf f.0 s t f.2 (a.each leaf f.0 f.1)
    by leaf s false t e = other-gained c leaf live live' s g t
        (a.each leaf s (if-false (names leaf c) (option_and_then (changed_by Begun) (sum_at leaf sums))
        (sum_at leaf sums) (Some s) t e))

    some-begun : (o : Option Sum) → IsSome o → IsSome (option_and_then (changed_by Begun) o)
    some-begun None t = absurd (true≢false (sym t))
    some-begun (Some s) t = refl

    still : (leaf : Leaf) (b : Bool) → names leaf c ≡ b → list_any (names leaf) live' ≡ true
        → IsSome (sum_at leaf sums')
    still leaf true t u =
        subst IsSome
        (sym (happened leaf
        ∙ ap (λ b. if b then option_and_then (changed_by Begun) (sum_at leaf sums) else sum_at leaf sums) t))
        (some-begun (sum_at leaf sums) (there leaf t))
    still leaf false t u =
        subst IsSome
        (sym (happened leaf
        ∙ ap (λ b. if b then option_and_then (changed_by Begun) (sum_at leaf sums) else sum_at leaf sums) t))
        (a.summed leaf (sym (named-before c leaf live live' g t) ∙ u))

-- totals are as they were

pub total-begun : (c : Cookie) (sums sums' : Sums) → HappenedTo Begun c.ancestry sums sums' → (leaf : Leaf)
    → (total_in (sum_at leaf sums') ≡ total_in (sum_at leaf sums))
    × (forgotten_in (sum_at leaf sums') ≡ forgotten_in (sum_at leaf sums))
total-begun c sums sums' happened leaf = by (names leaf c) refl
  where
    same : (o : Option Sum) → (total_in (option_and_then (changed_by Begun) o) ≡ total_in o)
        × (forgotten_in (option_and_then (changed_by Begun) o) ≡ forgotten_in o)
    same None = (refl, refl)
    same (Some s) = (refl, refl)

    by : (b : Bool) → names leaf c ≡ b → (total_in (sum_at leaf sums') ≡ total_in (sum_at leaf sums))
        × (forgotten_in (sum_at leaf sums') ≡ forgotten_in (sum_at leaf sums))
    by true t =
        let h = happened leaf
        ∙ ap (λ b. if b then option_and_then (changed_by Begun) (sum_at leaf sums) else sum_at leaf sums) t in
        let k = same (sum_at leaf sums) in
        (ap total_in h ∙ k.0, ap forgotten_in h ∙ k.1)
    by false t =
        let h = happened leaf
        ∙ ap (λ b. if b then option_and_then (changed_by Begun) (sum_at leaf sums) else sum_at leaf sums) t in
        (ap total_in h, ap forgotten_in h)

pub total-added : (sums sums' : Sums)
    → ((leaf : Leaf) (s : Sum) → sum_at leaf sums ≡ Some s → sum_at leaf sums' ≡ Some s)
    → ((leaf : Leaf) (s : Sum) → sum_at leaf sums' ≡ Some s → sum_at leaf sums ≡ None → s ≡ no_sum)
    → (leaf : Leaf) → (total_in (sum_at leaf sums') ≡ total_in (sum_at leaf sums))
    × (forgotten_in (sum_at leaf sums') ≡ forgotten_in (sum_at leaf sums))
total-added sums sums' kept fresh leaf = by (sum_at leaf sums) refl (sum_at leaf sums') refl
  where
    Same : Option Sum → Option Sum → Type 0
    Same p o = (total_in p ≡ total_in o) × (forgotten_in p ≡ forgotten_in o)

    by : (o : Option Sum) → sum_at leaf sums ≡ o → (p : Option Sum) → sum_at leaf sums' ≡ p
        → Same (sum_at leaf sums') (sum_at leaf sums)
    by (Some s) e p f = let h = kept leaf s e ∙ sym e in (ap total_in h, ap forgotten_in h)
    by None e None f = let h = f ∙ sym e in (ap total_in h, ap forgotten_in h)
    by None e (Some s) f =
        let is = fresh leaf s f e in (
          ap total_in f ∙ (ap (λ (z : Sum). total_in (Some z)) is ∙ sym (ap total_in e)),
          ap forgotten_in f
              ∙ (ap (λ (z : Sum). forgotten_in (Some z)) is ∙ sym (ap forgotten_in e)),
        )
