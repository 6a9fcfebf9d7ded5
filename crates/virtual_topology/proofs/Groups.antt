-- Groups of numbers that are merged.
use Rattle.std.proofs.Common.{◌≡◌, ℕ, suc, [], Some, None, filter, if◌then◌else◌, ◌+◌, ◌-◌, ◌<◌, ◌≤◌, ◌==◌, ◌||◌, ◌&&◌}
use Rattle.std.proofs.Common.{Bool, true, false, cond, List, ◌∷◌, ◌++◌, length, get_or, take, drop, refl, sym, ap, ◌∙◌}
use Rattle.std.proofs.Common.{eqb-true, arith}
use Rattle.std.proofs.lemmas.Cmp.{nat_eq_equiv}
use Rattle.std.proofs.lemmas.List.{append-nil, drop_all, drop_more, take_all}
use Rattle.virtual_topology.specs.Faults.{are_joined}
use Rattle.virtual_topology.specs.Wires.{Joint}
use Rattle.virtual_topology.specs.Within.{AreGroups, HaveSwitches, kept_of, merged}
use Rattle.std.specs.Prelude.{filter_map, slice_index}
use Rattle.std.specs.List.{cons_option}

-- two numbers are one after the merging if they were, or if each is that of one of the groups
pub merged_same : (p q x y : ℕ) → (merged p q x == merged p q y)
    ≡ ((x == y) || (((x == p) && (q == y)) || ((x == q) && (p == y))))
merged_same p q x y = by (x == p) refl (y == p) refl
  where
    same : (a b : ℕ) → a ≡ b → (a == b) ≡ true
    same a b e = ap (λ n. a == n) (sym e) ∙ nat_eq_equiv.refl a

    or_false : (b : Bool) → (b || false) ≡ b
    or_false true = refl
    or_false false = refl

    and_false : (b : Bool) → (b && false) ≡ false
    and_false true = refl
    and_false false = refl

    by : (b : Bool) → (x == p) ≡ b → (c : Bool) → (y == p) ≡ c
        → (cond (x == p) q x == cond (y == p) q y) ≡ ((x == y) || (((x == p) && (q == y)) || ((x == q) && (p == y))))
    by true s true t =
        (λ i. cond (s i) q x == cond (t i) q y) ∙ (nat_eq_equiv.refl q
        ∙ sym (ap (λ z. z || (((x == p) && (q == y)) || ((x == q) && (p == y))))
        (same x y (eqb-true x p s ∙ sym (eqb-true y p t)))))
    by true s false t =
        (λ i. cond (s i) q x == cond (t i) q y)
        ∙ sym
        ((λ i. (ap (λ n. n == y) (eqb-true x p s) ∙ (nat_eq_equiv.symm p y ∙ t)) i ||
        ((s i && (q == y)) || ((x == q) && (nat_eq_equiv.symm p y ∙ t) i)))
        ∙ (ap (λ z. (q == y) || z) (and_false (x == q)) ∙ or_false (q == y)))
    by false s true t =
        (λ i. cond (s i) q x == cond (t i) q y)
        ∙ sym
        ((λ i. (ap (λ n. x == n) (eqb-true y p t) ∙ s) i ||
        ((s i && (q == y)) || ((x == q) && (nat_eq_equiv.symm p y ∙ t) i))) ∙ and_true (x == q))
      where
        and_true : (b : Bool) → (b && true) ≡ b
        and_true true = refl
        and_true false = refl
    by false s false t =
        (λ i. cond (s i) q x == cond (t i) q y)
        ∙ sym ((λ i. (x == y) || ((s i && (q == y)) || ((x == q) && (nat_eq_equiv.symm p y ∙ t) i)))
        ∙ (ap (λ z. (x == y) || z) (and_false (x == q)) ∙ or_false (x == y)))

-- what a slice was written back to a vector
pub written : (len : ℕ) (new items : List ℕ) → len ≡ length items → length new ≡ length items
    → take len (new ++ drop (length new) items) ≡ new
written len new items a b =
    ap (λ rest. take len (new ++ rest)) (drop_all (length new) items (omega (arith, b)))
    ∙ (ap (take len) (append-nil new) ∙ take_all len new (omega (arith, a, b)))

-- groups after one link more is taken
pub groups_step : (count left : ℕ) (links : List Joint) (d : Joint) (old new : ℕ → ℕ) → 0 < left → left ≤ length links
    → (get_or links (left - 1) d).0.0 < count → (get_or links (left - 1) d).1.0 < count
    → ((a b : ℕ) → a < count → b < count → (old a == old b) ≡ are_joined (drop left links) a b)
    → ((k : ℕ) → k < count
    → new k ≡ merged (old (get_or links (left - 1) d).0.0) (old (get_or links (left - 1) d).1.0) (old k))
    → (a b : ℕ) → a < count → b < count → (new a == new b) ≡ are_joined (drop (left - 1) links) a b
groups_step count left links d old new low high one other before merges a b a-in b-in =
    let l = get_or links (left - 1) d in
    let on : (left - 1) + 1 ≡ left = omega arith in
    let lt : left - 1 < length links = omega arith in
    (λ i. merges a a-in i == merges b b-in i)
    ∙ (merged_same (old l.0.0) (old l.1.0) (old a) (old b)
    ∙ ((λ i. before a b a-in b-in i ||
    ((before a l.0.0 a-in one i && before l.1.0 b other b-in i) ||
    (before a l.1.0 a-in other i && before l.0.0 b one b-in i)))
    ∙ sym (ap (λ ls. are_joined ls a b) (drop_more links (left - 1) d lt ∙ ap (λ n. l ∷ drop n links) on))))

-- the outside ports of a group are those of the virtual switches that links join
pub kept_are : (links : List Joint) (groups : List ℕ) (number : ℕ) → number < length groups → AreGroups links groups
    → (outside : List Joint) → HaveSwitches (length groups) outside
    → filter_map (kept_of groups (slice_index groups number)) outside
    ≡ filter (λ (o : Joint). are_joined links number o.0.0) outside
kept_are links groups number in_range are [] within = refl
kept_are links groups number in_range are (o ∷ os) within =
    ap (λ b. cons_option (if b then Some o else None) (filter_map (kept_of groups (slice_index groups number)) os))
    (are number o.0.0 in_range (within 0 o (omega arith)))
    ∙ by (are_joined links number o.0.0)
    (kept_are links groups number in_range are os (λ k d lt. within (suc k) d (omega arith)))
  where
    by : (b : Bool) → filter_map (kept_of groups (slice_index groups number)) os
        ≡ filter (λ (o : Joint). are_joined links number o.0.0) os
        → cons_option (if b then Some o else None) (filter_map (kept_of groups (slice_index groups number)) os)
        ≡ cond b (o ∷ filter (λ (o : Joint). are_joined links number o.0.0) os)
        (filter (λ (o : Joint). are_joined links number o.0.0) os)
    by true e = ap (λ os. o ∷ os) e
    by false e = e
