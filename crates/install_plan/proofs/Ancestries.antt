-- The entries of one key by rising ancestry.
use Rattle.std.proofs.Common.{◌≡◌, ℕ, zero, suc, ◌≤◌, ◌<◌, Bool, true, false, ◌||◌, List, [], ◌∷◌, length, get_or}
use Rattle.std.proofs.Common.{insert, remove, take, drop, refl, sym, ap, subst, ◌∙◌, arith, true≢false, ◌⊎◌, inl, inr}
use Rattle.std.proofs.Common.{cond}
use Rattle.std.specs.Prelude.{Some, slice_set}
use Rattle.std.specs.List.{AllByRecursion, AllWithin, Contains, list_any, slice_get}
use Rattle.std.specs.Option.{option_map_or}
use Rattle.std.specs.List.Sorted.{IsPartitionedBy, IsStrictlySortedBy}
use Rattle.std.specs.Ordering.{is_eq, is_lt, ordering_reverse}
use Rattle.std.specs.Cmp.{IsTotalOrder, alike_right, nat_cmp_total, on_total, then_total}
use Rattle.std.specs.Cmp.Lexicographic.{lists_total}
use Rattle.std.specs.declared.cmp.Ordering.{Ordering}
use Rattle.std.specs.declared.cmp.Ordering.TheVariants.{Less, Equal, Greater}
use Rattle.std.proofs.lemmas.Bool.{cases_lt}
use Rattle.std.proofs.lemmas.Cmp.{tied_itself}
use Rattle.std.proofs.lemmas.Map.Keys.{Less-from_sorted}
use Rattle.std.proofs.lemmas.List.Sums.{sum_by-insert}
use Rattle.cv_io.specs.declared.leaf.Leaf.{Leaf}
use Rattle.cv_io.specs.Leaves.{ancestry_cmp}
use Rattle.match_index.proofs.Counts.{count-cons}
use Rattle.switch_meaning.specs.declared.entry.PhysEntry.{PhysEntry}
use Rattle.switch_meaning.proofs.Members.{IsIn, from-place, here, there, in-all}
use Rattle.of10_match.specs.Ranges.{IsMatch}
use Rattle.install_plan.specs.InsideSlots.{Fits, by_ancestry, key_of}
use Rattle.install_plan.specs.declared.key.Key.{Key}
use Rattle.install_plan.specs.declared.slot.Slot.{Slot}
use Rattle.install_plan.proofs.Keyed.{no-items}
use Rattle.install_plan.specs.Tables.{Adds}

pub ancestry_total : IsTotalOrder ancestry_cmp
ancestry_total =
    lists_total (then_total (on_total (λ (a : Leaf). a.member) nat_cmp_total)
    (on_total (λ (a : Leaf). a.kind) nat_cmp_total))

pub by_ancestry_total : IsTotalOrder by_ancestry
by_ancestry_total = on_total (λ (e : PhysEntry). e.ancestry) ancestry_total

-- the entry comes before an ancestry
abbrev pub is_before : List Leaf → PhysEntry → Bool
is_before a d = is_lt (ancestry_cmp d.ancestry a)

less-is : (r : Ordering) → is_lt r ≡ true → r ≡ Less
less-is Less t = refl
less-is Equal t = cc
less-is Greater t = cc

-- what is neither less nor equal the other way round
turned-less : (r : Ordering) → is_lt (ordering_reverse r) ≡ false → is_eq r ≡ false → r ≡ Less
turned-less Less a b = refl
turned-less Equal a b = cc
turned-less Greater a b = cc

-- those before an ancestry stand in front
pub parted : (es : List PhysEntry) (a : List Leaf) → IsStrictlySortedBy by_ancestry es
    → IsPartitionedBy (is_before a) es
parted es a r i j d l h t = by (cases_lt i j)
  where
    by : (i < j) ⊎ (j ≤ i) → is_before a (get_or es i d) ≡ true
    by (inr ge) = let same : i ≡ j = omega arith in ap (λ k. is_before a (get_or es k d)) same ∙ t
    by (inl lt) =
        ap is_lt (ancestry_total.trans (get_or es i d).ancestry (get_or es j d).ancestry a
        (Less-from_sorted by_ancestry es i j d r lt h) (less-is (ancestry_cmp (get_or es j d).ancestry a) t))

module _ {A : Type 0} (P : A → Type 0) where
  pub each-take : (xs : List A) (n : ℕ) → n ≤ length xs → AllWithin P xs 0 n → AllByRecursion P (take n xs)
  each-take [] zero l a = tt
  each-take [] (suc n) l a = tt
  each-take (x ∷ xs) zero l a = tt
  each-take (x ∷ xs) (suc n) l a = (
    a 0 x (omega arith) (omega arith),
    each-take xs n (omega arith)
        (λ k d lo hi. a (suc k) d (omega arith) (omega arith)),
  )

  each-within : (xs : List A) → AllWithin P xs 0 (length xs) → AllByRecursion P xs
  each-within [] a = tt
  each-within (x ∷ xs) a =
      (a 0 x (omega arith) (omega arith), each-within xs (λ k d lo hi. a (suc k) d (omega arith) (omega arith)))

  pub each-drop : (xs : List A) (n : ℕ) → AllWithin P xs n (length xs) → AllByRecursion P (drop n xs)
  each-drop [] zero a = tt
  each-drop [] (suc n) a = tt
  each-drop (x ∷ xs) zero a = each-within (x ∷ xs) a
  each-drop (x ∷ xs) (suc n) a = each-drop xs n (λ k d lo hi. a (suc k) d (omega arith) (omega arith))

  pub each-insert : (x : A) (xs : List A) (i : ℕ) → AllByRecursion P xs → P x → AllByRecursion P (insert xs i x)
  each-insert x xs zero a p = (p, a)
  each-insert x [] (suc i) a p = (p, tt)
  each-insert x (y ∷ xs) (suc i) a p = (a.0, each-insert x xs i a.1 p)

  pub each-remove : (xs : List A) (i : ℕ) → AllByRecursion P xs → AllByRecursion P (remove xs i)
  each-remove [] zero a = tt
  each-remove [] (suc i) a = tt
  each-remove (x ∷ xs) zero a = a.1
  each-remove (x ∷ xs) (suc i) a = (a.0, each-remove xs i a.1)

-- an entry of this ancestry stands at the place
abbrev pub has-at : List Leaf → List PhysEntry → ℕ → Bool
has-at a es i = option_map_or (λ (d : PhysEntry). is_eq (ancestry_cmp d.ancestry a)) (slice_get es i) false

all-above : (e d : PhysEntry) (ds : List PhysEntry) → by_ancestry e d ≡ Less
    → AllByRecursion (λ (y : PhysEntry). by_ancestry d y ≡ Less) ds
    → AllByRecursion (λ (y : PhysEntry). by_ancestry e y ≡ Less) ds
all-above e d [] l a = tt
all-above e d (y ∷ ys) l a = (by_ancestry_total.trans e d y l a.0, all-above e d ys l a.1)

eq-turned : (r : Ordering) → is_eq (ordering_reverse r) ≡ is_eq r
eq-turned Less = refl
eq-turned Equal = refl
eq-turned Greater = refl

-- an entry is put in its place, where none has its ancestry
pub sorted-insert : (es : List PhysEntry) (i : ℕ) (e : PhysEntry) → IsStrictlySortedBy by_ancestry es
    → AllByRecursion (λ (d : PhysEntry). is_before e.ancestry d ≡ true) (take i es)
    → AllByRecursion (λ (d : PhysEntry). is_before e.ancestry d ≡ false) (drop i es)
    → has-at e.ancestry es i ≡ false → IsStrictlySortedBy by_ancestry (insert es i e)
unfolding IsStrictlySortedBy
sorted-insert [] zero e r b f n = (tt, tt)
sorted-insert (d ∷ ds) zero e r b f n =
    let turn : by_ancestry d e ≡ ordering_reverse (by_ancestry e d) = by_ancestry_total.antisymm d e in
    let less = turned-less (by_ancestry e d) (sym (ap is_lt turn) ∙ f.0)
    (sym (eq-turned (by_ancestry e d)) ∙ (sym (ap is_eq turn) ∙ n)) in
    ((less, all-above e d ds less r.0), r)
sorted-insert [] (suc i) e r b f n = (tt, tt)
sorted-insert (d ∷ ds) (suc i) e r b f n = (
  each-insert (λ (y : PhysEntry). by_ancestry d y ≡ Less) e ds i r.0 (less-is (by_ancestry d e) b.0),
  sorted-insert ds i e r.1 b.1 f n,
)

equal-is : (r : Ordering) → is_eq r ≡ true → r ≡ Equal
equal-is Less t = cc
equal-is Equal t = refl
equal-is Greater t = cc

-- an entry takes the place of one that has its ancestry
pub each-set : (P : PhysEntry → Type 0) (e : PhysEntry) (es : List PhysEntry) (i : ℕ) → AllByRecursion P es → P e
    → AllByRecursion P (slice_set es i e)
each-set P e [] i a p = tt
each-set P e (d ∷ ds) zero a p = (p, a.1)
each-set P e (d ∷ ds) (suc i) a p = (a.0, each-set P e ds i a.1 p)

below-set : (d e : PhysEntry) (es : List PhysEntry) (i : ℕ)
    → AllByRecursion (λ (y : PhysEntry). by_ancestry d y ≡ Less) es → has-at e.ancestry es i ≡ true
    → by_ancestry d e ≡ Less
below-set d e [] i a h = absurd (true≢false (sym h))
below-set d e (y ∷ ys) zero a h = sym (alike_right by_ancestry_total y e d (equal-is (by_ancestry y e) h)) ∙ a.0
below-set d e (y ∷ ys) (suc i) a h = below-set d e ys i a.1 h

alike-all : (d e : PhysEntry) (es : List PhysEntry) → by_ancestry d e ≡ Equal
    → AllByRecursion (λ (y : PhysEntry). by_ancestry d y ≡ Less) es
    → AllByRecursion (λ (y : PhysEntry). by_ancestry e y ≡ Less) es
alike-all d e [] s a = tt
alike-all d e (y ∷ ys) s a = (sym (by_ancestry_total.congr d e y s) ∙ a.0, alike-all d e ys s a.1)

pub sorted-set : (es : List PhysEntry) (i : ℕ) (e : PhysEntry) → IsStrictlySortedBy by_ancestry es
    → has-at e.ancestry es i ≡ true → IsStrictlySortedBy by_ancestry (slice_set es i e)
unfolding IsStrictlySortedBy
sorted-set [] i e r h = tt
sorted-set (d ∷ ds) zero e r h = (alike-all d e ds (equal-is (by_ancestry d e) h) r.0, r.1)
sorted-set (d ∷ ds) (suc i) e r h = (
  each-set (λ (y : PhysEntry). by_ancestry d y ≡ Less) e ds i r.0 (below-set d e ds i r.0 h),
  sorted-set ds i e r.1 h,
)

-- so the ancestry isn't new
pub not-apart : (es : List PhysEntry) (i : ℕ) (e : PhysEntry) → has-at e.ancestry es i ≡ true
    → list_any (λ (d : PhysEntry). is_eq (by_ancestry e d)) es ≡ true
not-apart [] i e h = absurd (true≢false (sym h))
not-apart (d ∷ ds) zero e h = or-yes (is_eq (by_ancestry e d))
    (list_any (λ (d : PhysEntry). is_eq (by_ancestry e d)) ds)
    (ap is_eq (by_ancestry_total.antisymm e d) ∙ (eq-turned (by_ancestry d e) ∙ h))
  where
    or-yes : (a b : Bool) → a ≡ true → (a || b) ≡ true
    or-yes true b t = refl
    or-yes false b t = cc
not-apart (d ∷ ds) (suc i) e h = or-right (is_eq (by_ancestry e d))
    (list_any (λ (d : PhysEntry). is_eq (by_ancestry e d)) ds) (not-apart ds i e h)
  where
    or-right : (a b : Bool) → b ≡ true → (a || b) ≡ true
    or-right true b t = refl
    or-right false b t = t

pub sorted-remove : (es : List PhysEntry) (i : ℕ) → IsStrictlySortedBy by_ancestry es
    → IsStrictlySortedBy by_ancestry (remove es i)
unfolding IsStrictlySortedBy
sorted-remove [] zero r = tt
sorted-remove [] (suc i) r = tt
sorted-remove (d ∷ ds) zero r = r.1
sorted-remove (d ∷ ds) (suc i) r =
    (each-remove (λ (y : PhysEntry). by_ancestry d y ≡ Less) ds i r.0, sorted-remove ds i r.1)

-- an entry of the list stands where its ancestry has its place
pub record StandsAt (e : PhysEntry) (i : ℕ) (es : List PhysEntry) : Type 0 where
  pub bound : i < length es
  pub at : slice_get es i ≡ Some e
  pub taken : Adds e (remove es i) es

pub stands-at : (es : List PhysEntry) (i : ℕ) (e : PhysEntry) → IsStrictlySortedBy by_ancestry es → IsIn e es
    → AllByRecursion (λ (d : PhysEntry). is_before e.ancestry d ≡ true) (take i es)
    → AllByRecursion (λ (d : PhysEntry). is_before e.ancestry d ≡ false) (drop i es)
    → StandsAt e i es
unfolding IsStrictlySortedBy
stands-at [] i e r j b f = no-items j
stands-at (d ∷ ds) zero e r here b f =
    record {
      bound = omega arith;
      at = refl;
      taken = λ p. let c = count-cons p e ds in let n = count-cons p e [] in
          omega (arith, c, n);
    }
stands-at (d ∷ ds) zero e r (there j) b f =
    let less : by_ancestry d e ≡ Less = in-all (λ (y : PhysEntry). by_ancestry d y ≡ Less) j r.0 in
    absurd (true≢false (sym (ap is_lt less) ∙ f.0))
stands-at (d ∷ ds) (suc i) e r here b f =
    absurd (true≢false (sym b.0 ∙ ap is_lt (tied_itself ancestry_total e.ancestry)))
stands-at (d ∷ ds) (suc i) e r (there j) b f =
    let s = stands-at ds i e r.1 j b.1 f in
    let l : i < length ds = s.bound in
    record {
      bound = omega arith;
      at = s.at;
      taken = λ p. let c = count-cons p d ds in let n =
          count-cons p d (remove ds i) in let t = s.taken p in omega (arith, c, n, t);
    }

pub inserted-adds : (es : List PhysEntry) (i : ℕ) (e : PhysEntry) → Adds e es (insert es i e)
inserted-adds es i e p = let s = sum_by-insert (λ x. cond (p x) 1 0) es i e in let n = count-cons p e [] in
    omega (arith, s, n)

-- the slots of entries that come and go

pub fits-removed : (k : Key) (s : Slot) (i c : ℕ) (ys : List PhysEntry) → Fits (k, s) → ys ≡ remove s.entries i
    → Fits (k, record { entries = ys; cookie = c })
fits-removed k s i c ys f e = record {
  keys = subst (AllByRecursion (λ (d : PhysEntry). (key_of d ≡ k) × IsMatch d.m)) (sym e)
      (each-remove (λ (d : PhysEntry). (key_of d ≡ k) × IsMatch d.m) s.entries i f.keys);
  rising = subst (IsStrictlySortedBy by_ancestry) (sym e) (sorted-remove s.entries i f.rising);
}

pub fits-inserted : (e : PhysEntry) (s : Slot) (i c : ℕ) (ys xs : List PhysEntry) → xs ≡ s.entries → Fits (key_of e, s)
    → IsMatch e.m
    → AllByRecursion (λ (d : PhysEntry). is_before e.ancestry d ≡ true) (take i xs)
    → AllByRecursion (λ (d : PhysEntry). is_before e.ancestry d ≡ false) (drop i xs)
    → has-at e.ancestry s.entries i ≡ false
    → ys ≡ insert s.entries i e → Fits (key_of e, record { entries = ys; cookie = c })
fits-inserted e s i c ys xs same f m b a n is = record {
  keys = subst (AllByRecursion (λ (d : PhysEntry). (key_of d ≡ key_of e) × IsMatch d.m)) (sym is)
      (each-insert (λ (d : PhysEntry). (key_of d ≡ key_of e) × IsMatch d.m) e s.entries i f.keys (refl, m));
  rising = subst (IsStrictlySortedBy by_ancestry) (sym is)
      (sorted-insert s.entries i e f.rising
      (subst (λ zs. AllByRecursion (λ (d : PhysEntry). is_before e.ancestry d ≡ true) (take i zs)) same b)
      (subst (λ zs. AllByRecursion (λ (d : PhysEntry). is_before e.ancestry d ≡ false) (drop i zs)) same a) n);
}

pub fits-set : (e : PhysEntry) (s : Slot) (i c : ℕ) (ys : List PhysEntry) → Fits (key_of e, s) → IsMatch e.m
    → has-at e.ancestry s.entries i ≡ true → ys ≡ slice_set s.entries i e
    → Fits (key_of e, record { entries = ys; cookie = c })
fits-set e s i c ys f m h is = record {
  keys = subst (AllByRecursion (λ (d : PhysEntry). (key_of d ≡ key_of e) × IsMatch d.m)) (sym is)
      (each-set (λ (d : PhysEntry). (key_of d ≡ key_of e) × IsMatch d.m) e s.entries i f.keys (refl, m));
  rising = subst (IsStrictlySortedBy by_ancestry) (sym is) (sorted-set s.entries i e f.rising h);
}

pub fits-same : (k : Key) (s : Slot) (c : ℕ) (ys : List PhysEntry) → Fits (k, s) → ys ≡ s.entries
    → Fits (k, record { entries = ys; cookie = c })
fits-same k s c ys f e = record {
  keys = subst (AllByRecursion (λ (d : PhysEntry). (key_of d ≡ k) × IsMatch d.m)) (sym e) f.keys;
  rising = subst (IsStrictlySortedBy by_ancestry) (sym e) f.rising;
}

pub stands-there : (es xs : List PhysEntry) (i : ℕ) (e : PhysEntry) → xs ≡ es → IsStrictlySortedBy by_ancestry es
    → Contains es e
    → AllByRecursion (λ (d : PhysEntry). is_before e.ancestry d ≡ true) (take i xs)
    → AllByRecursion (λ (d : PhysEntry). is_before e.ancestry d ≡ false) (drop i xs) → StandsAt e i es
stands-there es xs i e same r c b a =
    stands-at es i e r (from-place e es c)
    (subst (λ zs. AllByRecursion (λ (d : PhysEntry). is_before e.ancestry d ≡ true) (take i zs)) same b)
    (subst (λ zs. AllByRecursion (λ (d : PhysEntry). is_before e.ancestry d ≡ false) (drop i zs)) same a)
