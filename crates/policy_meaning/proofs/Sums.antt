-- What the rules of `a + b` say.
use Rattle.std.proofs.Common.{◌≡◌, ℕ, suc, ◌+◌, ◌<◌, true, List, Some, ap, ◌∙◌, arith, sym}
use Rattle.std.specs.Prelude.{flat_map}
use Rattle.of10_match.specs.Fields.{HeaderOf}
use Rattle.of10_match.specs.Matching.{holds, overlaps, both}
use Rattle.alg_priority.specs.Sizes.{sum_size}
use Rattle.policy_meaning.specs.Meaning.{both_act}
use Rattle.policy_meaning.specs.Rules.{summed, sum_rule, sums_with}
use Rattle.policy_meaning.specs.Best.{EachAt, Below, IsBest, IsUntouched, Says}
use Rattle.policy_meaning.specs.declared.meaning.Meaning.{Meaning}
use Rattle.policy_meaning.specs.declared.rule.Rule.{Rule}
use Rattle.policy_meaning.proofs.Booleans.{split_or, join_or}
use Rattle.policy_meaning.proofs.BestLemmas.{Any, anything, best_holds, best_most, at-flat_map, at-filter_map}
use Rattle.policy_meaning.proofs.BestLemmas.{best-flat_map, best-filter_map}
use Rattle.policy_meaning.proofs.Meeting.{meet_there, meet_holds, some_met, is_met}

-- the rule of two, where both hold the header
abbrev sum_of : Rule → Rule → Rule
sum_of a b = summed a b (both a.m b.m)

-- what is known of a rule of two that holds a header
pub record Summed (h : HeaderOf) (a x y : Rule) : Type 0 where
  pub left : holds a.m h ≡ true
  pub right : holds x.m h ≡ true
  pub is : sum_of a x ≡ y
  pub level : y.level ≡ a.level + x.level

pub summed-holds : (h : HeaderOf) (a x y : Rule) → sum_rule a x ≡ Some y → holds y.m h ≡ true → Summed h a x y
summed-holds h a x y e t =
    let s : (overlaps a.m x.m ≡ true) × (sum_of a x ≡ y) = some_met (summed a x) a.m x.m y e in
    let u : holds (both a.m x.m) h ≡ true = ap (λ (r : Rule). holds r.m h) s.1 ∙ t in
    let w = meet_holds a.m x.m h u s.0 in
    record { left = w.0; right = w.1; is = s.1; level = sym (ap (λ (r : Rule). r.level) s.1) }

-- a rule of two is below the sum of two bounds of which one is strict
lower : (h : HeaderOf) (n k : ℕ) (a x y : Rule) → sum_rule a x ≡ Some y → holds y.m h ≡ true
    → (holds a.m h ≡ true → a.level < suc n) → (holds x.m h ≡ true → x.level < k) → y.level < n + k
lower h n k a x y e t p q =
    let j = summed-holds h a x y e t in
    let l1 : a.level < suc n = p j.left in
    let l2 : x.level < k = q j.right in
    let at = j.level in
    omega arith

lower' : (h : HeaderOf) (n k : ℕ) (a x y : Rule) → sum_rule a x ≡ Some y → holds y.m h ≡ true
    → (holds a.m h ≡ true → a.level < n) → (holds x.m h ≡ true → x.level < suc k) → y.level < n + k
lower' h n k a x y e t p q =
    let j = summed-holds h a x y e t in
    let l1 : a.level < n = p j.left in
    let l2 : x.level < suc k = q j.right in
    let at = j.level in
    omega arith

pub below-size : (a b n k : ℕ) → a < n → b < k → a + b < sum_size n k
below-size a b n k p q = omega arith

module _ (h : HeaderOf) (xs bs : List Rule) where
  -- the rule of the two best ones is the best
  pub best-sum : (a b : Rule) → IsBest h xs a → IsBest h bs b → IsBest h (flat_map (sums_with bs) xs) (sum_of a b)
  best-sum a b p q =
      let m = meet_there a.m b.m h (best_holds h p) (best_holds h q) in
      best-flat_map h (sums_with bs) (sum_of a b)
      (best-filter_map h h (sum_rule a) Any (sum_of a b) (is_met (summed a b) a.m b.m m.1) m.0
      (λ x y _ e t low. lower h a.level b.level a x y e t (λ _. omega arith) low) (anything bs) q)
      (λ x lt. at-filter_map h h (sum_rule x) Any (Below (suc b.level)) (Below (a.level + b.level)) bs
      (λ z y _ e t low. lower' h a.level b.level x z y e t lt low) (anything bs)
      (best_most h q (suc b.level) (omega arith)))
      p

  untouched-sum : EachAt h IsUntouched xs → EachAt h IsUntouched bs → EachAt h IsUntouched (flat_map (sums_with bs) xs)
  untouched-sum p q =
      at-flat_map h IsUntouched IsUntouched (sums_with bs) xs
      (λ a ua. at-filter_map h h (sum_rule a) Any IsUntouched IsUntouched bs
      (λ x y _ e t ux. let j = summed-holds h a x y e t in sym (ap (λ (r : Rule). r.touched) j.is)
      ∙ join_or a.touched x.touched (ua j.left) (ux j.right)) (anything bs) q)
      p

  pub sum-says : (n k : ℕ) (x y : Meaning) → Says h xs n x → Says h bs k y
      → Says h (flat_map (sums_with bs) xs) (sum_size n k) (both_act x y)
  sum-says n k x y p q = record {
    rule = sum_of p.rule q.rule;
    best = best-sum p.rule q.rule p.best q.best;
    below = below-size p.rule.level q.rule.level n k p.below q.below;
    means = rw (← p.means, ← q.means);
    untouched = λ e. let s = split_or p.rule.touched q.rule.touched e in
        untouched-sum (p.untouched s.0) (q.untouched s.1);
  }
