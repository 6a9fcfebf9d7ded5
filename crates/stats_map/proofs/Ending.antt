-- A cookie doesn't matter any more, or a leaf is to be forgotten.
use Rattle.std.proofs.Common.{◌≡◌, ℕ, ◌+◌, ◌-◌, ◌<◌, Bool, true, false, ◌&&◌, ◌||◌, List, [], ◌∷◌, refl, sym, ap, subst}
use Rattle.std.proofs.Common.{◌∙◌, arith, count_by, sum_by, nat_lt, lt-ltb, ltb-true, true≢false}
use Rattle.std.specs.Prelude.{◌==◌, not, IsSome, Option, Some, None, option_and_then, if◌then◌else◌}
use Rattle.std.specs.List.{AllByRecursion, list_any}
use Rattle.cv_io.specs.Leaves.{same_leaf}
use Rattle.cv_io.specs.declared.leaf.Leaf.{Leaf}
use Rattle.switch_meaning.specs.Counts.{Cookie, Numbers, added, bytes_for, capped, folded_in, names, packets_for}
use Rattle.stats_map.specs.InsideSums.{AreSums, HappenedTo, HasNumbers, IsSum, Sums, changed_by, forgotten_in, left_of}
use Rattle.stats_map.specs.InsideSums.{sum_at, total_in}
use Rattle.stats_map.specs.declared.sum.Event.{Event}
use Rattle.stats_map.specs.declared.sum.Event.TheVariants.{Ended, Forgotten}
use Rattle.stats_map.specs.declared.sum.Sum.{Sum}
use Rattle.stats_map.proofs.Happening.{flips}
use Rattle.stats_map.proofs.Moving.{tally}
use Rattle.stats_map.proofs.Summing.{Gains, any-counted, counts, named-before, named-gained, other-lost, some-same}
use Rattle.stats_map.proofs.Summing.{sum-named, when-named}

abbrev pub no_numbers : Numbers
no_numbers = record { packets = 0; bytes = 0 }

-- nothing of a sum is left where it is forgotten and no cookie is left

none-left : (n : ℕ) → 0 < n → (n == 0) ≡ false
none-left n l = grind (arith, l)

zero-left : (n : ℕ) → (n == 0) ≡ not (nat_lt 0 n)
zero-left n = grind arith

-- what stays of a sum
record Stays (r s : Sum) : Type 0 where
  is : r ≡ s
  wanted : r.forgotten ≡ true → 0 < r.live

stays : (r s : Sum) → left_of r ≡ Some s → Stays r s
stays r s e = by r.forgotten refl (r.live == 0) refl e
  where
    positive : (n : ℕ) → (n == 0) ≡ false → 0 < n
    positive n f = grind (arith, f)

    by : (f : Bool) → r.forgotten ≡ f → (z : Bool) → (r.live == 0) ≡ z → (if f && z then None else Some r) ≡ Some s
        → Stays r s
    by true f true z e = cc
    by true f false z e = record { is = some-same e; wanted = λ u. positive r.live z }
    by false f z zz e = record { is = some-same e; wanted = λ u. absurd (true≢false (sym u ∙ f)) }

-- a sum whose leaf is named stays
named-stays : (r : Sum) → 0 < r.live → left_of r ≡ Some r
named-stays r l = ap (λ z. if r.forgotten && z then None else Some r) (none-left r.live l) ∙ never r.forgotten
  where
    never : (f : Bool) → (if f && false then None else Some r) ≡ Some r
    never true = refl
    never false = refl

-- the total of what stays
left-total : (r : Sum) (named : Bool) → named ≡ nat_lt 0 r.live
    → (total_in (left_of r) ≡ (if r.forgotten && not named then no_numbers else total_in (Some r)))
    × (forgotten_in (left_of r) ≡ (r.forgotten && named))
left-total r named e = by r.forgotten refl (r.live == 0) refl
  where
    same : (r.live == 0) ≡ not named
    same = zero-left r.live ∙ ap not (sym e)

    Goal : Bool → Bool → Bool → Type 0
    Goal f z m = (total_in (if f && z then None else Some r) ≡ (if f && not m then no_numbers else total_in (Some r)))
        × (forgotten_in (if f && z then None else Some r) ≡ (f && m))

    each : (f m : Bool) → r.forgotten ≡ f → Goal f (not m) m
    each true true f = (refl, f)
    each true false f = (refl, refl)
    each false true f = (refl, f)
    each false false f = (refl, f)

    by : (f : Bool) → r.forgotten ≡ f → (z : Bool) → (r.live == 0) ≡ z → Goal r.forgotten (r.live == 0) named
    by f e' z z' = subst (λ (x : Bool). Goal x (r.live == 0) named) (sym e')
        (subst (λ (x : Bool). Goal f x named) (sym same) (each f named e'))

module _ (c : Cookie) (rest live : List Cookie) (sums sums' : Sums) (g : Gains c rest live) (a : AreSums live sums)
    (numbers : AllByRecursion HasNumbers rest)
    (happened : HappenedTo (Ended (tally c)) c.ancestry sums sums') where
  abbrev ends : Event
  ends = Ended (tally c)

  abbrev closed : Sum → Sum
  closed s = record {
    packets = capped (s.packets + c.numbers.packets);
    bytes = capped (s.bytes + c.numbers.bytes);
    forgotten = s.forgotten;
    live = s.live - 1;
    live_packets = s.live_packets - c.numbers.packets;
    live_bytes = s.live_bytes - c.numbers.bytes;
  }

  happened-if : (leaf : Leaf) (b : Bool) → names leaf c ≡ b
      → sum_at leaf sums' ≡ (if b then option_and_then (changed_by ends) (sum_at leaf sums) else sum_at leaf sums)
  happened-if leaf b t = happened leaf
      ∙ ap (λ d. if d then option_and_then (changed_by ends) (sum_at leaf sums) else sum_at leaf sums) t

  -- the cookies that are left
  left-live : (leaf : Leaf) (s : Sum) → names leaf c ≡ true → IsSum live leaf s
      → (s.live - 1 ≡ count_by (names leaf) rest)
      × (s.live_packets - c.numbers.packets ≡ sum_by (packets_for leaf) rest)
      × (s.live_bytes - c.numbers.bytes ≡ sum_by (bytes_for leaf) rest)
  left-live leaf s t i =
      let w = when-named leaf c t in
      let x = g (counts leaf) in
      let y = g (packets_for leaf) in
      let z = g (bytes_for leaf) in
      let l = i.live_count in
      let p = i.live_packets in
      let b = i.live_bytes in
      (omega (arith, x, l, w.0), omega (arith, y, p, w.1), omega (arith, z, b, w.2))

  ended-sum : (leaf : Leaf) (s0 s : Sum) → names leaf c ≡ true → left_of (closed s0) ≡ Some s → IsSum live leaf s0
      → IsSum rest leaf s
  ended-sum leaf s0 s t e i =
      let k = stays (closed s0) s e in
      let l = left-live leaf s0 t i in
      subst (IsSum rest leaf) k.is (record { live_count = l.0; live_packets = l.1; live_bytes = l.2; named = k.wanted })

  pub sums-ended : AreSums rest sums'
  sums-ended = record {
    each = λ leaf s e. by leaf s (names leaf c) refl e;
    summed = λ leaf u. still leaf u (sum_at leaf sums) refl (names leaf c) refl
        (a.summed leaf (named-gained c leaf rest live g u));
    numbers = numbers;
  }
    where
      by : (leaf : Leaf) (s : Sum) (b : Bool) → names leaf c ≡ b → sum_at leaf sums' ≡ Some s → IsSum rest leaf s
      by leaf s true t e =
          let f = sum-named leaf s (sum_at leaf sums) ends (sym (happened-if leaf true t) ∙ e) in
          ended-sum leaf f.0 s t f.2 (a.each leaf f.0 f.1)
      by leaf s false t e = other-lost c leaf rest live s g t (a.each leaf s (sym (happened-if leaf false t) ∙ e))

      still : (leaf : Leaf) → list_any (names leaf) rest ≡ true → (o : Option Sum) → sum_at leaf sums ≡ o → (b : Bool)
          → names leaf c ≡ b → IsSome (sum_at leaf sums) → IsSome (sum_at leaf sums')
      still leaf u None e b t v = absurd (true≢false (sym (subst IsSome e v)))
      still leaf u (Some s0) e true t v =
          let l = left-live leaf s0 t (a.each leaf s0 e) in
          let some : 0 < count_by (names leaf) rest =
          ltb-true 0 (count_by (names leaf) rest) (sym (any-counted (names leaf) rest) ∙ u) in
          let first = l.0 in
          let left = named-stays (closed s0) (omega (arith, some, first)) in
          subst IsSome (sym (happened-if leaf true t ∙ (ap (option_and_then (changed_by ends)) e ∙ left))) refl
      still leaf u (Some s0) e false t v = subst IsSome (sym (happened-if leaf false t ∙ e)) refl

  -- totals, without those of leaves that are forgotten and not named any more
  pub total-ended : (leaf : Leaf)
      → (total_in (sum_at leaf sums')
      ≡ (if forgotten_in (sum_at leaf sums) && not (list_any (names leaf) rest) then no_numbers
      else folded_in (λ q. total_in (sum_at q sums)) c leaf))
      × (forgotten_in (sum_at leaf sums') ≡ (forgotten_in (sum_at leaf sums) && list_any (names leaf) rest))
  total-ended leaf = by (sum_at leaf sums) refl (names leaf c) refl
    where
      Goal : Option Sum → Option Sum → Numbers → Type 0
      Goal p o t = (total_in p ≡ (if forgotten_in o && not (list_any (names leaf) rest) then no_numbers else t))
          × (forgotten_in p ≡ (forgotten_in o && list_any (names leaf) rest))

      folded : (b : Bool) (o : Option Sum) → names leaf c ≡ b → sum_at leaf sums ≡ o
          → folded_in (λ q. total_in (sum_at q sums)) c leaf ≡ (if b then added (total_in o) c.numbers else total_in o)
      folded b o t e = ap (λ d. if d then added (total_in (sum_at leaf sums)) c.numbers
          else total_in (sum_at leaf sums)) t
          ∙ ap (λ (p : Option Sum). if b then added (total_in p) c.numbers else total_in p) e

      move : (p o : Option Sum) (t : Numbers) → sum_at leaf sums' ≡ p → sum_at leaf sums ≡ o
          → folded_in (λ q. total_in (sum_at q sums)) c leaf ≡ t → Goal p o t
          → Goal (sum_at leaf sums') (sum_at leaf sums) (folded_in (λ q. total_in (sum_at q sums)) c leaf)
      move p o t e f h k = subst (λ (z : Numbers). Goal (sum_at leaf sums') (sum_at leaf sums) z) (sym h)
          (subst (λ (z : Option Sum). Goal (sum_at leaf sums') z t) (sym f)
          (subst (λ (z : Option Sum). Goal z o t) (sym e) k))

      lost : (b : Bool) → names leaf c ≡ b → sum_at leaf sums ≡ None → b ≡ false
      lost true t e =
          let w = when-named leaf c t in
          let x = g (counts leaf) in
          let any : list_any (names leaf) live ≡ true = any-counted (names leaf) live
          ∙ lt-ltb 0 (count_by (names leaf) live) (omega (arith, x, w.0)) in
          absurd (true≢false (sym (subst IsSome e (a.summed leaf any))))
      lost false t e = refl

      kept : (s0 : Sum) → sum_at leaf sums ≡ Some s0 → names leaf c ≡ false
          → Goal (Some s0) (Some s0) (total_in (Some s0))
      kept s0 e t = one s0.forgotten refl (list_any (names leaf) rest) refl
        where
          wants : s0.forgotten ≡ true → list_any (names leaf) rest ≡ true
          wants u =
              let i = a.each leaf s0 e in
              let l = i.named u in
              let n = i.live_count in
              sym (named-before c leaf rest live g t)
              ∙ (any-counted (names leaf) live ∙ lt-ltb 0 (count_by (names leaf) live) (omega (arith, l, n)))

          one : (f : Bool) → s0.forgotten ≡ f → (m : Bool) → list_any (names leaf) rest ≡ m
              → Goal (Some s0) (Some s0) (total_in (Some s0))
          one true f true m = (
            sym (λ i. if f i && not (m i) then no_numbers else total_in (Some s0)),
            f
                ∙ sym (λ i. f i && m i),
          )
          one true f false m = absurd (true≢false (sym (wants f) ∙ m))
          one false f m n = (
            sym (λ i. if f i && not (list_any (names leaf) rest) then no_numbers else total_in (Some s0)),
            f
                ∙ sym (λ i. f i && list_any (names leaf) rest),
          )

      by : (o : Option Sum) → sum_at leaf sums ≡ o → (b : Bool) → names leaf c ≡ b
          → Goal (sum_at leaf sums') (sum_at leaf sums) (folded_in (λ q. total_in (sum_at q sums)) c leaf)
      by None e true t = absurd (true≢false (lost true t e))
      by None e false t = move None None (total_in None) (happened-if leaf false t ∙ e) e (folded false None t e)
          (refl, refl)
      by (Some s0) e true t =
          let l = left-live leaf s0 t (a.each leaf s0 e) in
          let n = any-counted (names leaf) rest ∙ ap (nat_lt 0) (sym l.0) in
          let k = left-total (closed s0) (list_any (names leaf) rest) n in
          move (left_of (closed s0)) (Some s0) (added (total_in (Some s0)) c.numbers)
          (happened-if leaf true t ∙ ap (option_and_then (changed_by ends)) e) e (folded true (Some s0) t e) k
      by (Some s0) e false t = move (Some s0) (Some s0) (total_in (Some s0)) (happened-if leaf false t ∙ e) e
          (folded false (Some s0) t e) (kept s0 e t)

-- a leaf is to be forgotten

module _ (leaf : Leaf) (live : List Cookie) (sums sums' : Sums) (a : AreSums live sums)
    (happened : HappenedTo Forgotten (leaf ∷ []) sums sums') where
  abbrev marked : Sum → Sum
  marked s = record s { forgotten = true }

  happened-at : (q : Leaf) (b : Bool) → same_leaf q leaf ≡ b
      → sum_at q sums' ≡ (if b then option_and_then (changed_by Forgotten) (sum_at q sums) else sum_at q sums)
  happened-at q b t = happened q
      ∙ ap (λ d. if d then option_and_then (changed_by Forgotten) (sum_at q sums) else sum_at q sums)
      (or-none (same_leaf q leaf) ∙ t)
    where
      or-none : (b : Bool) → (b || false) ≡ b
      or-none true = refl
      or-none false = refl

  marked-sum : (q : Leaf) (s0 s : Sum) → left_of (marked s0) ≡ Some s → IsSum live q s0 → IsSum live q s
  marked-sum q s0 s e i =
      let k = stays (marked s0) s e in
      subst (IsSum live q) k.is
      (record {
        live_count = i.live_count;
        live_packets = i.live_packets;
        live_bytes = i.live_bytes;
        named = k.wanted;
      })

  pub sums-forgot : AreSums live sums'
  sums-forgot = record {
    each = λ q s e. by q s (same_leaf q leaf) refl e;
    summed = λ q u. still q u (sum_at q sums) refl (same_leaf q leaf) refl (a.summed q u);
    numbers = a.numbers;
  }
    where
      by : (q : Leaf) (s : Sum) (b : Bool) → same_leaf q leaf ≡ b → sum_at q sums' ≡ Some s → IsSum live q s
      by q s true t e =
          let f = sum-named q s (sum_at q sums) Forgotten (sym (happened-at q true t) ∙ e) in
          marked-sum q f.0 s f.2 (a.each q f.0 f.1)
      by q s false t e = a.each q s (sym (happened-at q false t) ∙ e)

      still : (q : Leaf) → list_any (names q) live ≡ true → (o : Option Sum) → sum_at q sums ≡ o → (b : Bool)
          → same_leaf q leaf ≡ b → IsSome (sum_at q sums) → IsSome (sum_at q sums')
      still q u None e b t v = absurd (true≢false (sym (subst IsSome e v)))
      still q u (Some s0) e true t v =
          let l = (a.each q s0 e).live_count in
          let some : 0 < count_by (names q) live =
          ltb-true 0 (count_by (names q) live) (sym (any-counted (names q) live) ∙ u) in
          let left = named-stays (marked s0) (omega (arith, some, l)) in
          subst IsSome (sym (happened-at q true t ∙ (ap (option_and_then (changed_by Forgotten)) e ∙ left))) refl
      still q u (Some s0) e false t v = subst IsSome (sym (happened-at q false t ∙ e)) refl

  pub total-forgot : (q : Leaf)
      → (total_in (sum_at q sums')
      ≡ (if (same_leaf leaf q || forgotten_in (sum_at q sums)) && not (list_any (names q) live) then no_numbers
      else total_in (sum_at q sums)))
      × (forgotten_in (sum_at q sums')
      ≡ ((same_leaf leaf q || forgotten_in (sum_at q sums)) && list_any (names q) live))
  total-forgot q = by (sum_at q sums) refl (same_leaf q leaf) refl
    where
      Goal : Option Sum → Option Sum → Bool → Type 0
      Goal p o b =
          (total_in p ≡ (if (b || forgotten_in o) && not (list_any (names q) live) then no_numbers else total_in o))
          × (forgotten_in p ≡ ((b || forgotten_in o) && list_any (names q) live))

      move : (p o : Option Sum) (b : Bool) → sum_at q sums' ≡ p → sum_at q sums ≡ o → same_leaf q leaf ≡ b → Goal p o b
          → Goal (sum_at q sums') (sum_at q sums) (same_leaf leaf q)
      move p o b e f t k =
          subst (λ (x : Bool). Goal (sum_at q sums') (sum_at q sums) x) (sym (flips leaf q ∙ t))
          (subst (λ (z : Option Sum). Goal (sum_at q sums') z b) (sym f)
          (subst (λ (z : Option Sum). Goal z o b) (sym e) k))

      none-named : sum_at q sums ≡ None → (m : Bool) → list_any (names q) live ≡ m → m ≡ false
      none-named e true m = absurd (true≢false (sym (subst IsSome e (a.summed q m))))
      none-named e false m = refl

      gone : (b : Bool) → list_any (names q) live ≡ false → Goal None None b
      gone true m = (sym (λ i. if not (m i) then no_numbers else total_in None), sym m)
      gone false m = (refl, refl)

      kept : (s0 : Sum) → sum_at q sums ≡ Some s0 → Goal (Some s0) (Some s0) false
      kept s0 e = one s0.forgotten refl (list_any (names q) live) refl
        where
          wants : s0.forgotten ≡ true → list_any (names q) live ≡ true
          wants u =
              let i = a.each q s0 e in
              let l = i.named u in
              let n = i.live_count in
              any-counted (names q) live ∙ lt-ltb 0 (count_by (names q) live) (omega (arith, l, n))

          one : (f : Bool) → s0.forgotten ≡ f → (m : Bool) → list_any (names q) live ≡ m
              → Goal (Some s0) (Some s0) false
          one true f true m = (
            sym (λ i. if f i && not (m i) then no_numbers else total_in (Some s0)),
            f
                ∙ sym (λ i. f i && m i),
          )
          one true f false m = absurd (true≢false (sym (wants f) ∙ m))
          one false f m n = (
            sym (λ i. if f i && not (list_any (names q) live) then no_numbers else total_in (Some s0)),
            f
                ∙ sym (λ i. f i && list_any (names q) live),
          )

      by : (o : Option Sum) → sum_at q sums ≡ o → (b : Bool) → same_leaf q leaf ≡ b
          → Goal (sum_at q sums') (sum_at q sums) (same_leaf leaf q)
      by None e true t = move None None true (happened-at q true t ∙ ap (option_and_then (changed_by Forgotten)) e) e t
          (gone true (none-named e (list_any (names q) live) refl))
      by None e false t = move None None false (happened-at q false t ∙ e) e t
          (gone false (none-named e (list_any (names q) live) refl))
      by (Some s0) e true t =
          let n = any-counted (names q) live ∙ ap (nat_lt 0) (sym (a.each q s0 e).live_count) in
          move (left_of (marked s0)) (Some s0) true (happened-at q true t
          ∙ ap (option_and_then (changed_by Forgotten)) e) e t (left-total (marked s0) (list_any (names q) live) n)
      by (Some s0) e false t = move (Some s0) (Some s0) false (happened-at q false t ∙ e) e t (kept s0 e)
