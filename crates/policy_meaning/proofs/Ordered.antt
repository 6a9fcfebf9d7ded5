-- The best rule in any order, and the order in which rules are listed.
use Rattle.std.proofs.Common.{◌≡◌, ℕ, zero, suc, ◌<◌, ◌≤◌, Bool, true, false, List, [], ◌∷◌, arith, ap, length, get_or}
use Rattle.std.proofs.Common.{ltb-false, ltb-true, refl, subst, sym, ◌∙◌}
use Rattle.std.specs.Prelude.{Contains, nat_lt, sum_by}
use Rattle.std.specs.Cmp.{IsStrictWeakOrder, IsTotalOrder}
use Rattle.std.specs.Cmp.Lexicographic.{options_total}
use Rattle.std.specs.Ordering.{is_lt}
use Rattle.std.proofs.lemmas.Cmp.{lists_total, nat_cmp_total, on_total, then_total}
use Rattle.std.proofs.lemmas.List.Sorted.{Contains-permutation, ranks_by, sum_by-IsPermutation}
use Rattle.std.proofs.lemmas.List.Sums.{sum_by-cons}
use Rattle.cv_io.specs.declared.leaf.Leaf.{Leaf}
use Rattle.of10_match.specs.Fields.{HeaderOf}
use Rattle.of10_match.specs.Matching.{holds}
use Rattle.of10_match.proofs.ByteOrder.{by_bytes_total}
use Rattle.policy_meaning.specs.Best.{EachAt, Below, IsBest, first, later}
use Rattle.policy_meaning.specs.Order.{by_ancestry, OrderKeepsBest}
use Rattle.cv_io.specs.Leaves.{leaf_cmp}
use Rattle.policy_meaning.specs.declared.rule.Rule.{Rule}
use Rattle.policy_meaning.proofs.Booleans.{true_not_false}

module _ (h : HeaderOf) where
  abbrev weight_by : Bool → Bool → ℕ
  weight_by true false = 1
  weight_by true true = 0
  weight_by false below = 0

  -- 1 for a rule that holds the header and isn't below r
  abbrev weight : Rule → Rule → ℕ
  weight r x = weight_by (holds x.m h) (nat_lt x.level r.level)

  low-by : (b c : Bool) (P : Type 0) → (c ≡ false → P → ⊥) → (b ≡ true → P) → weight_by b c ≡ 0
  low-by true true P against low = refl
  low-by true false P against low = absurd (against refl (low refl))
  low-by false c P against low = refl

  by-low : (b c : Bool) (P : Type 0) → (c ≡ true → P) → weight_by b c ≡ 0 → b ≡ true → P
  by-low true true P low e t = low refl
  by-low true false P low e t = absurd (omega arith)
  by-low false c P low e t = absurd (true_not_false (sym t))

  lower-weighs : (r x : Rule) → (holds x.m h ≡ true → x.level < r.level) → weight r x ≡ 0
  lower-weighs r x low = low-by (holds x.m h) (nat_lt x.level r.level) (x.level < r.level)
      (λ e l. let m : r.level ≤ x.level = ltb-false x.level r.level e in omega arith) low

  weighs-lower : (r x : Rule) → weight r x ≡ 0 → holds x.m h ≡ true → x.level < r.level
  weighs-lower r x = by-low (holds x.m h) (nat_lt x.level r.level) (x.level < r.level) (λ e. ltb-true x.level r.level e)

  weighs-itself : (r : Rule) (b c : Bool) → b ≡ true → nat_lt r.level r.level ≡ c → weight_by b c ≡ 1
  weighs-itself r true false t e = refl
  weighs-itself r true true t e = let l : r.level < r.level = ltb-true r.level r.level e in absurd (omega arith)
  weighs-itself r false c t e = absurd (true_not_false (sym t))

  lower-weigh : (r : Rule) (xs : List Rule) → EachAt h (Below r.level) xs → sum_by (weight r) xs ≡ 0
  lower-weigh r [] p = refl
  lower-weigh r (x ∷ xs) p = let a = lower-weighs r x p.0 in let b = lower-weigh r xs p.1 in
      omega (arith, sum_by-cons (weight r) x xs)

  weigh-lower : (r : Rule) (xs : List Rule) → sum_by (weight r) xs ≡ 0 → EachAt h (Below r.level) xs
  weigh-lower r [] e = tt
  weigh-lower r (x ∷ xs) e =
      let a : weight r x ≡ 0 = omega (arith, sum_by-cons (weight r) x xs) in
      let b : sum_by (weight r) xs ≡ 0 = omega (arith, sum_by-cons (weight r) x xs) in
      (weighs-lower r x a, weigh-lower r xs b)

  held : {xs : List Rule} {r : Rule} → IsBest h xs r → holds r.m h ≡ true
  held (first t b) = t
  held (later lt p) = held p

  there : {xs : List Rule} {r : Rule} → IsBest h xs r → Contains xs r
  there (first {r = r} {rs = rs} t b) = (0, omega arith, refl)
  there (later {rs = rs} lt p) = let c = there p in (suc c.0, let l = c.1 in omega arith, c.2)

  alone : {xs : List Rule} {r : Rule} → IsBest h xs r → sum_by (weight r) xs ≡ 1
  alone (first {r = r} {rs = rs} t b) = let a = weighs-itself r (holds r.m h) (nat_lt r.level r.level) t refl in let z =
      lower-weigh r rs b in omega (arith, sum_by-cons (weight r) r rs)
  alone (later {r = r} {x = x} {rs = rs} lt p) = let a = lower-weighs r x lt in let z = alone p in
      omega (arith, sum_by-cons (weight r) x rs)

  module _ (r : Rule) (t : holds r.m h ≡ true) where
    itself : weight r r ≡ 1
    itself = weighs-itself r (holds r.m h) (nat_lt r.level r.level) t refl

    heavy : (xs : List Rule) (k : ℕ) → k < length xs → get_or xs k r ≡ r → 1 ≤ sum_by (weight r) xs
    heavy [] k lt e = absurd (omega arith)
    heavy (x ∷ xs) zero lt e = let a = itself in let b : weight r x ≡ weight r r = ap (weight r) e in
        omega (arith, sum_by-cons (weight r) x xs)
    heavy (x ∷ xs) (suc k) lt e = let a = heavy xs k (omega arith) e in omega (arith, sum_by-cons (weight r) x xs)

    best-by : (xs : List Rule) (k : ℕ) → k < length xs → get_or xs k r ≡ r → sum_by (weight r) xs ≡ 1 → IsBest h xs r
    best-by [] k lt e s = absurd (omega arith)
    best-by (x ∷ xs) zero lt e s =
        let a = itself in
        let b : weight r x ≡ weight r r = ap (weight r) e in
        let rest : sum_by (weight r) xs ≡ 0 = omega (arith, sum_by-cons (weight r) x xs) in
        subst (λ (z : Rule). IsBest h (z ∷ xs) r) (sym e) (first t (weigh-lower r xs rest))
    best-by (x ∷ xs) (suc k) lt e s =
        let some = heavy xs k (omega arith) e in
        let light : weight r x ≡ 0 = omega (arith, sum_by-cons (weight r) x xs) in
        let rest : sum_by (weight r) xs ≡ 1 = omega (arith, sum_by-cons (weight r) x xs) in
        later (weighs-lower r x light) (best-by xs k (omega arith) e rest)

pub order_keeps_best : OrderKeepsBest
order_keeps_best h xs ys r p b =
    let c = Contains-permutation xs ys r p (there h b) in
    best-by h r (held h b) ys c.0 c.1 c.2 (sum_by-IsPermutation (weight h r) xs ys p ∙ alone h b)

-- rules are in a total order
leaf_cmp_total : IsTotalOrder leaf_cmp
leaf_cmp_total = then_total (on_total (λ (a : Leaf). a.member) nat_cmp_total)
    (on_total (λ (a : Leaf). a.kind) nat_cmp_total)

pub by_ancestry_total : IsTotalOrder by_ancestry
by_ancestry_total =
    then_total (on_total (λ (a : Rule). a.ancestry) (lists_total leaf_cmp_total))
    (then_total (on_total (λ (a : Rule). a.m.in_port) (options_total nat_cmp_total))
    (on_total (λ (a : Rule). a.m) by_bytes_total))

pub ranks_rules : IsStrictWeakOrder (λ (a b : Rule). is_lt (by_ancestry a b))
ranks_rules = ranks_by by_ancestry_total (λ (a : Rule). a)
