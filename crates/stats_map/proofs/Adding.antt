-- Sums of more leaves.
use Rattle.std.proofs.Common.{◌≡◌, ℕ, ◌+◌, ◌<◌, Bool, true, false, cond, ◌||◌, List, length, get_or, take, refl, sym}
use Rattle.std.proofs.Common.{ap, subst, ◌∙◌, true≢false}
use Rattle.std.specs.Prelude.{Option, Some, None, IsSome, is_some, OnErr, Result, Ok, Err}
use Rattle.std.specs.BTreeMap.{is_at}
use Rattle.std.specs.List.{list_any}
use Rattle.std.specs.Ordering.{is_eq, nat_cmp, ordering_then}
use Rattle.std.specs.declared.cmp.Ordering.{Ordering}
use Rattle.std.specs.declared.cmp.Ordering.TheVariants.{Less, Equal, Greater}
use Rattle.std.proofs.lemmas.Map.Lookups.{exact_unsigned}
use Rattle.cv_io.specs.Leaves.{leaf_cmp, same_leaf}
use Rattle.cv_io.specs.declared.leaf.Leaf.{Leaf}
use Rattle.switch_meaning.proofs.Alike.{leaf_decides}
use Rattle.stats_map.specs.InsideSums.{HaveMore, Sums, no_sum, sum_at}
use Rattle.stats_map.specs.declared.sum.Sum.{Sum}
use Rattle.stats_map.proofs.Happening.{any-more}

pub both-equal : (a b : Ordering) → ordering_then a b ≡ Equal → (a ≡ Equal) × (b ≡ Equal)
both-equal Less b e = cc
both-equal Equal b e = (refl, e)
both-equal Greater b e = cc

pub equal-is : (r : Ordering) → is_eq r ≡ true → r ≡ Equal
equal-is Less e = cc
equal-is Equal e = refl
equal-is Greater e = cc

-- leaves that compare equal are the same
pub leaf-exact : (a b : Leaf) → is_at (leaf_cmp a) b ≡ true → a ≡ b
leaf-exact a b e =
    let s = both-equal (nat_cmp a.member b.member) (nat_cmp a.kind b.kind) (equal-is (leaf_cmp a b) e) in
    let m = exact_unsigned a.member b.member s.0 in
    let k = exact_unsigned a.kind b.kind s.1 in
    λ i. record { member = m i; kind = k i }

none-some : {A : Type 0} {B : Type 0} (o : Option A) (s : A) → o ≡ None → o ≡ Some s → B
none-some o s e f = absurd (true≢false (sym (ap is_some f) ∙ ap is_some e))

pub more-none : (sums : Sums) → HaveMore sums sums
more-none sums = record { kept = λ leaf s e. e; fresh = λ leaf s e n. none-some (sum_at leaf sums) s n e }

pub more-more : (a b c : Sums) → HaveMore a b → HaveMore b c → HaveMore a c
more-more a b c p q = record {
  kept = λ leaf s e. q.kept leaf s (p.kept leaf s e);
  fresh = λ leaf s e n. by leaf s e n (sum_at leaf b) refl;
}
  where
    same : (s t : Sum) → Some s ≡ Some t → s ≡ t
    same s t e = cc

    by : (leaf : Leaf) (s : Sum) → sum_at leaf c ≡ Some s → sum_at leaf a ≡ None → (o : Option Sum) → sum_at leaf b ≡ o
        → s ≡ no_sum
    by leaf s e n None f = q.fresh leaf s e f
    by leaf s e n (Some t) f = same s t (sym e ∙ q.kept leaf t f) ∙ p.fresh leaf t f n

pub more-inserted : (leaf : Leaf) (v : Sum) (old new : Sums) → v ≡ no_sum → sum_at leaf old ≡ None
    → ((q : Leaf) → sum_at q new ≡ cond (is_at (leaf_cmp leaf) q) (Some v) (sum_at q old)) → HaveMore old new
more-inserted leaf v old new z n at = record {
  kept = λ q s e. kept q s e (is_at (leaf_cmp leaf) q) refl;
  fresh = λ q s e m. fresh q s e m (is_at (leaf_cmp leaf) q) refl;
}
  where
    kept : (q : Leaf) (s : Sum) → sum_at q old ≡ Some s → (b : Bool) → is_at (leaf_cmp leaf) q ≡ b
        → sum_at q new ≡ Some s
    kept q s e true t = none-some (sum_at q old) s (ap (λ (x : Leaf). sum_at x old) (sym (leaf-exact leaf q t)) ∙ n) e
    kept q s e false t = at q ∙ (ap (λ b. cond b (Some v) (sum_at q old)) t ∙ e)

    same : (s t : Sum) → Some s ≡ Some t → s ≡ t
    same s t e = cc

    fresh : (q : Leaf) (s : Sum) → sum_at q new ≡ Some s → sum_at q old ≡ None → (b : Bool)
        → is_at (leaf_cmp leaf) q ≡ b → s ≡ no_sum
    fresh q s e m true t = same s v (sym e ∙ (at q ∙ ap (λ b. cond b (Some v) (sum_at q old)) t)) ∙ z
    fresh q s e m false t = none-some (sum_at q old) s m (sym (at q ∙ ap (λ b. cond b (Some v) (sum_at q old)) t) ∙ e)

-- nothing was found
pub nothing-found : (o : Option Sum) (r : Bool) → r ≡ is_some o → r ≡ false → o ≡ None
nothing-found None r e t = refl
nothing-found (Some s) r e t = absurd (true≢false (sym e ∙ t))

-- what has a sum has one still
pub still-some : (old new : Sums) (leaf : Leaf) → HaveMore old new → IsSome (sum_at leaf old) → IsSome (sum_at leaf new)
still-some old new leaf m t = by (sum_at leaf old) refl t
  where
    by : (o : Option Sum) → sum_at leaf old ≡ o → IsSome o → IsSome (sum_at leaf new)
    by None e u = absurd (true≢false (sym u))
    by (Some s) e u = ap is_some (m.kept leaf s e)

-- one leaf more has a sum
pub one-more-there : (xs : List Leaf) (i : ℕ) (x : Leaf) (old new : Sums) → i < length xs → x ≡ get_or xs i x
    → HaveMore old new → IsSome (sum_at x new)
    → ((leaf : Leaf) → list_any (same_leaf leaf) (take i xs) ≡ true → IsSome (sum_at leaf old))
    → (leaf : Leaf) → list_any (same_leaf leaf) (take (i + 1) xs) ≡ true → IsSome (sum_at leaf new)
one-more-there xs i x old new lt is m now before leaf t =
    by (list_any (same_leaf leaf) (take i xs)) refl (same_leaf leaf x) refl (sym (any-more leaf xs i x lt is) ∙ t)
  where
    by : (b : Bool) → list_any (same_leaf leaf) (take i xs) ≡ b → (d : Bool) → same_leaf leaf x ≡ d
        → (list_any (same_leaf leaf) (take i xs) || same_leaf leaf x) ≡ true → IsSome (sum_at leaf new)
    by true e d f u = still-some old new leaf m (before leaf e)
    by false e true f u = subst (λ (z : Leaf). IsSome (sum_at z new)) (sym ((leaf_decides leaf x).0 f)) now
    by false e false f u = absurd (true≢false (sym u ∙ (ap (λ b. b || same_leaf leaf x) e ∙ f)))

pub on-err : {T E : Type 0} (r : Result T E) (P : Type 0) → P → OnErr r P
on-err (Ok x) P p = tt
on-err (Err e) P p = p
