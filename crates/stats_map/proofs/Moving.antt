-- Cookies have other numbers, or don't matter any more.
use Rattle.std.proofs.Common.{◌≡◌, ℕ, ◌+◌, ◌-◌, ◌*◌, ◌<◌, ◌≤◌, ◌^◌, Bool, true, false, List, [], ◌∷◌, length, refl, sym}
use Rattle.std.proofs.Common.{ap, subst, ◌∙◌, arith, count_by, sum_by, lt-ltb, true≢false}
use Rattle.std.specs.Prelude.{IfSome, IsSome, Option, Some, None, option_and_then, if◌then◌else◌}
use Rattle.std.specs.List.{AllByRecursion, list_any}
use Rattle.std.proofs.lemmas.List.Elements.{All-from_recursion}
use Rattle.std.proofs.lemmas.List.Sums.{count_by-le-length, sum_by-le}
use Rattle.cv_io.specs.declared.leaf.Leaf.{Leaf}
use Rattle.switch_meaning.specs.Counts.{Cookie, Numbers, bytes_for, names, packets_for}
use Rattle.stats_map.specs.Counting.{with_numbers}
use Rattle.stats_map.specs.InsideSums.{Allows, AllowsEach, AreSums, HappenedTo, HasNumbers, IsSum, Sums, changed_by}
use Rattle.stats_map.specs.InsideSums.{forgotten_in, sum_at, total_in}
use Rattle.stats_map.specs.declared.sum.Event.{Event}
use Rattle.stats_map.specs.declared.sum.Event.TheVariants.{Begun, Moved, Ended}
use Rattle.stats_map.specs.declared.sum.Sum.{Sum}
use Rattle.stats_map.specs.declared.sum.Tally.{Tally}
use Rattle.stats_map.proofs.Summing.{Gains, any-counted, counts, named-before, other-gained, other-lost, some-same}
use Rattle.stats_map.proofs.Summing.{sum-named, when-named}

-- the numbers of a tally
abbrev pub tally : Cookie → Tally
tally c = record { packets = c.numbers.packets; bytes = c.numbers.bytes }

-- a cookie that is there counts

abbrev Bounded : ℕ → Type 0
Bounded n = n ≤ 18446744073709551615

numbers-bound : (leaf : Leaf) (live : List Cookie) → AllByRecursion HasNumbers live
    → AllByRecursion (λ (c : Cookie). Bounded (packets_for leaf c)) live
    × AllByRecursion (λ (c : Cookie). Bounded (bytes_for leaf c)) live
numbers-bound leaf [] a = (tt, tt)
numbers-bound leaf (c ∷ cs) a =
    let r = numbers-bound leaf cs a.1 in
    ((one (names leaf c) c.numbers.packets a.0.0, r.0), (one (names leaf c) c.numbers.bytes a.0.1, r.1))
  where
    one : (b : Bool) (n : ℕ) → n < 2 ^ 64 → Bounded (if b then n else 0)
    one true n l = omega arith
    one false n l = omega arith

sum-bound : (leaf : Leaf) (live : List Cookie) → AllByRecursion HasNumbers live
    → (sum_by (packets_for leaf) live ≤ length live * 18446744073709551615)
    × (sum_by (bytes_for leaf) live ≤ length live * 18446744073709551615)
sum-bound leaf live a =
    let b = numbers-bound leaf live a in (
      sum_by-le (packets_for leaf) 18446744073709551615 live
          (All-from_recursion (λ (c : Cookie). Bounded (packets_for leaf c)) live b.0),
      sum_by-le (bytes_for leaf) 18446744073709551615 live
          (All-from_recursion (λ (c : Cookie). Bounded (bytes_for leaf c)) live b.1),
    )

pub allows-begun : (leaves : List Leaf) (live : List Cookie) (sums : Sums) → length live < 2 ^ 63 → AreSums live sums
    → AllowsEach Begun leaves sums
allows-begun leaves live sums small a leaf t = by (sum_at leaf sums) refl
  where
    by : (o : Option Sum) → sum_at leaf sums ≡ o → IfSome o (Allows Begun)
    by None e = tt
    by (Some s) e =
        let i = (a.each leaf s e).live_count in
        let l = count_by-le-length (names leaf) live in
        omega (arith, i, l, small)

module _ (c : Cookie) (rest live : List Cookie) (sums : Sums) (g : Gains c rest live) (a : AreSums live sums) where
  pub allows-moved : (new : Tally) → length live < 2 ^ 63 → new.packets < 2 ^ 64 → new.bytes < 2 ^ 64
      → AllowsEach (Moved (tally c) new) c.ancestry sums
  allows-moved new small p b leaf t = by (sum_at leaf sums) refl
    where
      by : (o : Option Sum) → sum_at leaf sums ≡ o → IfSome o (Allows (Moved (tally c) new))
      by None e = tt
      by (Some s) e =
          let i = a.each leaf s e in
          let ip = i.live_packets in
          let ib = i.live_bytes in
          let w = when-named leaf c t in
          let y = g (packets_for leaf) in
          let z = g (bytes_for leaf) in
          let m = sum-bound leaf live a.numbers in (
            omega (arith, ip, y, w.1),
            omega (arith, ib, z, w.2),
            omega (arith, ip, m.0, small, p),
            omega (arith, ib, m.1, small, b),
          )

  pub allows-ended : AllowsEach (Ended (tally c)) c.ancestry sums
  allows-ended leaf t = by (sum_at leaf sums) refl
    where
      by : (o : Option Sum) → sum_at leaf sums ≡ o → IfSome o (Allows (Ended (tally c)))
      by None e = tt
      by (Some s) e =
          let i = a.each leaf s e in
          let il = i.live_count in
          let ip = i.live_packets in
          let ib = i.live_bytes in
          let w = when-named leaf c t in
          let x = g (counts leaf) in
          let y = g (packets_for leaf) in
          let z = g (bytes_for leaf) in
          (omega (arith, il, x, w.0), omega (arith, ip, y, w.1), omega (arith, ib, z, w.2))

  -- other numbers
  module _ (n : Numbers) (live' : List Cookie) (sums' : Sums) (g' : Gains (with_numbers n c) rest live')
      (numbers : AllByRecursion HasNumbers live')
      (happened : HappenedTo (Moved (tally c) (record { packets = n.packets; bytes = n.bytes })) c.ancestry sums sums')
    where
      abbrev moved : Event
      moved = Moved (tally c) (record { packets = n.packets; bytes = n.bytes })

      abbrev c' : Cookie
      c' = with_numbers n c

      moved-sum : (leaf : Leaf) (s0 s : Sum) → names leaf c ≡ true → changed_by moved s0 ≡ Some s → IsSum live leaf s0
          → IsSum live' leaf s
      moved-sum leaf s0 s t e i =
          let w = when-named leaf c t in
          let w' = when-named leaf c' t in
          let is : record s0 {
            live_packets = s0.live_packets - c.numbers.packets + n.packets;
            live_bytes = s0.live_bytes - c.numbers.bytes + n.bytes;
          } ≡ s = some-same e in
          let x = g (counts leaf) in
          let x' = g' (counts leaf) in
          let y = g (packets_for leaf) in
          let y' = g' (packets_for leaf) in
          let z = g (bytes_for leaf) in
          let z' = g' (bytes_for leaf) in
          let l = i.live_count in
          let p = i.live_packets in
          let b = i.live_bytes in
          subst (IsSum live' leaf) is (record {
            live_count = omega (arith, x, x', l, w.0, w'.0);
            live_packets = omega (arith, y, y', p, w.1, w'.1);
            live_bytes = omega (arith, z, z', b, w.2, w'.2);
            named = i.named;
          })

      some-moved : (o : Option Sum) → IsSome o → IsSome (option_and_then (changed_by moved) o)
      some-moved None t = absurd (true≢false (sym t))
      some-moved (Some s) t = refl

      happened-if : (leaf : Leaf) (b : Bool) → names leaf c ≡ b
          → sum_at leaf sums' ≡ (if b then option_and_then (changed_by moved) (sum_at leaf sums) else sum_at leaf sums)
      happened-if leaf b t = happened leaf
          ∙ ap (λ d. if d then option_and_then (changed_by moved) (sum_at leaf sums) else sum_at leaf sums) t

      was-named : (leaf : Leaf) → list_any (names leaf) live' ≡ true → list_any (names leaf) live ≡ true
      was-named leaf u = by (names leaf c) refl
        where
          by : (b : Bool) → names leaf c ≡ b → list_any (names leaf) live ≡ true
          by true t =
              let w = when-named leaf c t in
              let x = g (counts leaf) in
              any-counted (names leaf) live ∙ lt-ltb 0 (count_by (names leaf) live) (omega (arith, x, w.0))
          by false t = named-before c leaf rest live g t ∙ (sym (named-before c' leaf rest live' g' t) ∙ u)

      pub sums-moved : AreSums live' sums'
      sums-moved = record {
        each = λ leaf s e. by leaf s (names leaf c) refl e;
        summed = λ leaf u. still leaf (names leaf c) refl (a.summed leaf (was-named leaf u));
        numbers = numbers;
      }
        where
          by : (leaf : Leaf) (s : Sum) (b : Bool) → names leaf c ≡ b → sum_at leaf sums' ≡ Some s → IsSum live' leaf s
          by leaf s true t e =
              let f = sum-named leaf s (sum_at leaf sums) moved (sym (happened-if leaf true t) ∙ e) in
              moved-sum leaf f.0 s t f.2 (a.each leaf f.0 f.1)
          by leaf s false t e = other-gained c' leaf rest live' s g' t
              (other-lost c leaf rest live s g t (a.each leaf s (sym (happened-if leaf false t) ∙ e)))

          still : (leaf : Leaf) (b : Bool) → names leaf c ≡ b → IsSome (sum_at leaf sums) → IsSome (sum_at leaf sums')
          still leaf true t u = subst IsSome (sym (happened-if leaf true t)) (some-moved (sum_at leaf sums) u)
          still leaf false t u = subst IsSome (sym (happened-if leaf false t)) u

      pub total-moved : (leaf : Leaf) → (total_in (sum_at leaf sums') ≡ total_in (sum_at leaf sums))
          × (forgotten_in (sum_at leaf sums') ≡ forgotten_in (sum_at leaf sums))
      total-moved leaf = by (names leaf c) refl
        where
          same : (o : Option Sum) → (total_in (option_and_then (changed_by moved) o) ≡ total_in o)
              × (forgotten_in (option_and_then (changed_by moved) o) ≡ forgotten_in o)
          same None = (refl, refl)
          same (Some s) = (refl, refl)

          by : (b : Bool) → names leaf c ≡ b → (total_in (sum_at leaf sums') ≡ total_in (sum_at leaf sums))
              × (forgotten_in (sum_at leaf sums') ≡ forgotten_in (sum_at leaf sums))
          by true t = let h = happened-if leaf true t in let k = same (sum_at leaf sums) in
              (ap total_in h ∙ k.0, ap forgotten_in h ∙ k.1)
          by false t = let h = happened-if leaf false t in (ap total_in h, ap forgotten_in h)
