-- Entries by rising key, and one entry for each.
use Rattle.std.proofs.Common.{◌≡◌, ◌+◌, ℕ, zero, suc, Bool, true, false, ◌&&◌, List, [], ◌∷◌, refl, ap, subst, ◌∙◌}
use Rattle.std.proofs.Common.{arith}
use Rattle.std.specs.Prelude.{◌==◌, not, filter, if◌then◌else◌, IsSorted, slice_index_or}
use Rattle.std.specs.List.{list_any}
use Rattle.std.specs.Cmp.{IsTotalOrder, nat_cmp_total, on_total, then_total}
use Rattle.std.specs.Cmp.Lexicographic.{lists_total, pointwise}
use Rattle.std.specs.Ordering.{is_le, is_lt, nat_cmp, ordering_reverse, ordering_then}
use Rattle.std.specs.declared.cmp.Ordering.{Ordering}
use Rattle.std.specs.declared.cmp.Ordering.TheVariants.{Less, Equal, Greater}
use Rattle.std.proofs.lemmas.Bool.Decides.{nat_tests}
use Rattle.cv_io.specs.declared.leaf.Leaf.{Leaf}
use Rattle.of10_match.proofs.ByteOrder.{by_bytes_total}
use Rattle.switch_meaning.specs.BatchLaw.{HasNoTwins, HasOneAKey, InstalledHasOneAKey, SortedByKey}
use Rattle.switch_meaning.specs.Batches.{by_key, key_cmp, put_by_key}
use Rattle.cv_io.specs.Leaves.{ancestry_cmp, leaf_cmp, same_leaf}
use Rattle.switch_meaning.specs.Keys.{displaces, one_per_key, passes_over, same_key}
use Rattle.switch_meaning.specs.declared.entry.PhysEntry.{PhysEntry}
use Rattle.switch_meaning.proofs.Batched.{by_key-permutes, key-flips}
use Rattle.switch_meaning.proofs.Gate.{not_true}
use Rattle.switch_meaning.proofs.Items.{fails, join_and}
use Rattle.switch_meaning.proofs.Members.{IsIn, distinct-filter, distinct-narrower, filter-in, passes-any}

pub key_total : IsTotalOrder key_cmp
key_total = then_total (on_total (λ (e : PhysEntry). e.priority) nat_cmp_total)
    (on_total (λ (e : PhysEntry). e.m) by_bytes_total)

-- the entry does not come after the first of the list
abbrev Above : PhysEntry → List PhysEntry → Type 0
Above x [] = Unit {0}
Above x (y ∷ ys) = is_lt (key_cmp y x) ≡ false

abbrev Rising : List PhysEntry → Type 0
Rising [] = Unit {0}
Rising (x ∷ xs) = Above x xs × Rising xs

not-below : (r : Ordering) → is_le r ≡ true → is_lt (ordering_reverse r) ≡ false
not-below Less e = refl
not-below Equal e = refl
not-below Greater e = cc

is-above : (r : Ordering) → is_le r ≡ false → is_lt r ≡ false
is-above Less e = cc
is-above Equal e = refl
is-above Greater e = refl

put-above : (x e : PhysEntry) (ds : List PhysEntry) → is_lt (key_cmp e x) ≡ false → Above x ds
    → Above x (put_by_key e ds)
put-above x e [] p a = p
put-above x e (d ∷ ds) p a = by (is_le (key_cmp e d))
  where
    by : (b : Bool) → Above x (if b then e ∷ d ∷ ds else d ∷ put_by_key e ds)
    by true = p
    by false = a

put-rises : (e : PhysEntry) (ds : List PhysEntry) → Rising ds → Rising (put_by_key e ds)
put-rises e [] r = (tt, tt)
put-rises e (d ∷ ds) r = by (is_le (key_cmp e d)) refl (put-rises e ds r.1)
  where
    by : (b : Bool) → is_le (key_cmp e d) ≡ b → Rising (put_by_key e ds)
        → Rising (if b then e ∷ d ∷ ds else d ∷ put_by_key e ds)
    by true t rest = (ap is_lt (key_total.antisymm d e) ∙ not-below (key_cmp e d) t, r)
    by false f rest = (put-above d e ds (is-above (key_cmp e d) f) r.0, rest)

by_key-rises : (es : List PhysEntry) → Rising (by_key es)
by_key-rises [] = tt
by_key-rises (e ∷ es) = put-rises e (by_key es) (by_key-rises es)

rising-sorted : (xs : List PhysEntry) → Rising xs → IsSorted key_cmp xs
rising-sorted [] r k d low lt = absurd (omega arith)
rising-sorted (x ∷ []) r k d low lt = absurd (omega arith)
rising-sorted (x ∷ y ∷ ys) r zero d low lt = r.0
rising-sorted (x ∷ y ∷ ys) r (suc k) d low lt =
    let next : suc (k + 1) ≡ suc k + 1 = omega arith in
    subst (λ n. is_lt (key_cmp (slice_index_or (x ∷ y ∷ ys) n d) (slice_index_or (y ∷ ys) k d)) ≡ false) next
    (rising-sorted (y ∷ ys) r.1 k d (omega arith) (omega arith))

pub sorted-by-key : SortedByKey
sorted-by-key es = (by_key-permutes es, rising-sorted (by_key es) (by_key-rises es))

-- ancestries that compare equal are the same

both-equal : (a b : Ordering) → ordering_then a b ≡ Equal → (a ≡ Equal) × (b ≡ Equal)
both-equal Less b e = cc
both-equal Equal b e = (refl, e)
both-equal Greater b e = cc

number-same : (a b : ℕ) → nat_cmp a b ≡ Equal → (a == b) ≡ true
number-same a b e = grind (arith, nat_tests)

leaf-same : (a b : Leaf) → leaf_cmp a b ≡ Equal → same_leaf a b ≡ true
leaf-same a b e =
    let s = both-equal (nat_cmp a.member b.member) (nat_cmp a.kind b.kind) e in
    join_and (a.member == b.member) (a.kind == b.kind) (number-same a.member b.member s.0)
    (number-same a.kind b.kind s.1)

ancestry-same : (a b : List Leaf) → ancestry_cmp a b ≡ Equal → pointwise same_leaf a b ≡ true
ancestry-same [] [] e = refl
ancestry-same [] (y ∷ ys) e = cc
ancestry-same (x ∷ xs) [] e = cc
ancestry-same (x ∷ xs) (y ∷ ys) e =
    let s = both-equal (leaf_cmp x y) (ancestry_cmp xs ys) e in
    join_and (same_leaf x y) (pointwise same_leaf xs ys) (leaf-same x y s.0) (ancestry-same xs ys s.1)

ancestry_total : IsTotalOrder ancestry_cmp
ancestry_total =
    lists_total (then_total (on_total (λ (a : Leaf). a.member) nat_cmp_total)
    (on_total (λ (a : Leaf). a.kind) nat_cmp_total))

abbrev are_twins : PhysEntry → PhysEntry → Bool
are_twins d e = same_key d e && pointwise same_leaf d.ancestry e.ancestry

module _ (entries : List PhysEntry) where
  abbrev is_kept : PhysEntry → Bool
  is_kept e = not (list_any (λ (d : PhysEntry). displaces d e) entries)

  -- nothing displaces an entry that is kept
  undisplaced : (d e : PhysEntry) → IsIn d entries → is_kept e ≡ true → displaces d e ≡ true → ⊥
  undisplaced d e i k t =
      let f : list_any (λ (d : PhysEntry). displaces d e) entries ≡ false =
      not_true (list_any (λ (d : PhysEntry). displaces d e) entries) k in
      let g : list_any (λ (d : PhysEntry). displaces d e) entries ≡ true =
      passes-any (λ (d : PhysEntry). displaces d e) i t in cc

  -- two entries that are kept have different keys
  kept-apart : (d e : PhysEntry) → IsIn d entries × (is_kept d ≡ true) → IsIn e entries × (is_kept e ≡ true)
      → are_twins d e ≡ false → same_key d e ≡ true → ⊥
  kept-apart d e p q apart t = by (ancestry_cmp d.ancestry e.ancestry) refl
    where
      by : (r : Ordering) → ancestry_cmp d.ancestry e.ancestry ≡ r → ⊥
      by Less c =
          undisplaced d e p.0 q.1 (join_and (same_key d e) (is_lt (ancestry_cmp d.ancestry e.ancestry)) t (ap is_lt c))
      by Equal c =
          let twins : are_twins d e ≡ true =
          join_and (same_key d e) (pointwise same_leaf d.ancestry e.ancestry) t
          (ancestry-same d.ancestry e.ancestry c) in cc
      by Greater c =
          undisplaced e d q.0 p.1
          (join_and (same_key e d) (is_lt (ancestry_cmp e.ancestry d.ancestry)) (key-flips e d ∙ t)
          (ap is_lt (ancestry_total.antisymm e.ancestry d.ancestry ∙ ap ordering_reverse c)))

  one-a-key : HasNoTwins entries → HasOneAKey (one_per_key entries)
  one-a-key none =
      distinct-narrower are_twins same_key (filter is_kept entries) (distinct-filter are_twins is_kept entries none)
      (λ d e i j apart. fails (same_key d e)
      (kept-apart d e (filter-in is_kept d entries i) (filter-in is_kept e entries j) apart))

pub installed-has-one-a-key : InstalledHasOneAKey
installed-has-one-a-key entries none =
    let passes = λ (e : PhysEntry). not (list_any (λ (d : PhysEntry). passes_over d e) entries) in
    one-a-key (filter passes entries) (distinct-filter are_twins passes entries none)
