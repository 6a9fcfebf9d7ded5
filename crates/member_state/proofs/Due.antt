-- Numbers in rising order: there is one list of them.
use Rattle.std.proofs.Common.{◌≡◌, ◌∙◌, ℕ, suc, ◌+◌, ◌<◌, ◌≤◌, ◌==◌, Bool, true, false, ◌||◌, not, nat_le, List, []}
use Rattle.std.proofs.Common.{◌∷◌, map, filter, Some, None, if◌then◌else◌, cond, refl, sym, ap, ap₂, subst, inl, inr}
use Rattle.std.proofs.Common.{arith, true≢false, eqb-true, eq-eqb, ne_eqb}
use Rattle.std.specs.List.{AllByRecursion, IsDistinct, list_any, slice_index_or}
use Rattle.std.specs.Ordering.{is_lt, nat_cmp}
use Rattle.std.specs.Prelude.{IsPermutation, IsSorted}
use Rattle.std.specs.Cmp.{nat_cmp_is}
use Rattle.std.specs.declared.cmp.Ordering.{Ordering}
use Rattle.std.specs.declared.cmp.Ordering.TheVariants.{Less}
use Rattle.std.proofs.lemmas.Bool.{cases_lt, le-leb, leb-true}
use Rattle.std.proofs.lemmas.Bool.Decides.{Decides-eqb}
use Rattle.std.proofs.lemmas.List.Sorted.{sum_by-IsPermutation}
use Rattle.std.proofs.lemmas.Map.Keys.{IsDistinct-IsPermutation}
use Rattle.match_index.proofs.Counts.{same_any}
use Rattle.member_table.specs.Changes.{changed_by, committed, is_among, is_number}
use Rattle.member_table.specs.Planning.{removing}
use Rattle.member_table.specs.Sound.{IsSound}
use Rattle.member_table.specs.Tables.{TableOf}
use Rattle.member_table.specs.Timeouts.{ListsRising, is_hard_due, serials_of, without_expired}
use Rattle.member_table.specs.declared.entry.Entry.{Entry}
use Rattle.member_table.proofs.Keyed.{once_filter}
use Rattle.member_table.proofs.Plans.{removing_is}
use Rattle.member_state.specs.Changes.{expired, inserted, rising, rising_serials, with_table}
use Rattle.member_state.specs.InsideRanks.{removal_planned}
use Rattle.member_state.specs.Plans.{after_planned, ranks_of}
use Rattle.member_state.specs.States.{MemberStateOf}
use Rattle.member_state.proofs.Lists.{eqb_flip, or_swap}
use Rattle.member_state.proofs.Plans.{fresh}

leb_false : (a b : ℕ) → nat_le a b ≡ false → b < a
leb_false a b e = elim (cases_lt b a) [
  | inl less ↦ less
  | inr le ↦ absurd (true≢false (sym (le-leb a b le) ∙ e))
]

-- each number is lower than those behind it
abbrev pub Rises : List ℕ → Type 0
Rises [] = Unit {0}
Rises (x ∷ xs) = AllByRecursion (λ y. x < y) xs × Rises xs

weaker : (x y : ℕ) (ys : List ℕ) → x < y → AllByRecursion (λ z. y < z) ys → AllByRecursion (λ z. x < z) ys
weaker x y [] less a = tt
weaker x y (z ∷ zs) less a = (omega (arith, a.0), weaker x y zs less a.1)

later_sorted : (x y : ℕ) (ys : List ℕ) → IsSorted nat_cmp (x ∷ y ∷ ys) → IsSorted nat_cmp (y ∷ ys)
later_sorted x y ys s k d low lt =
    let next : suc k + 1 ≡ suc (k + 1) = omega arith in
    subst (λ n. is_lt (nat_cmp (slice_index_or (x ∷ y ∷ ys) n d) (slice_index_or (y ∷ ys) k d)) ≡ false) next
    (s (suc k) d (omega arith) (omega arith))

not_less : (x y : ℕ) → is_lt (nat_cmp y x) ≡ false → x ≤ y
not_less x y e = elim (cases_lt y x) [
  | inl less ↦ absurd (true≢false (ap is_lt (nat_cmp_is y x Less less) ∙ e))
  | inr le ↦ le
]

sorted_rises : (xs : List ℕ) → IsSorted nat_cmp xs → IsDistinct ◌==◌ xs → Rises xs
unfolding IsDistinct
sorted_rises [] s d = tt
sorted_rises (x ∷ []) s d = (tt, tt)
sorted_rises (x ∷ y ∷ ys) s d =
    let rest = sorted_rises (y ∷ ys) (later_sorted x y ys s) d.1 in
    let le : x ≤ y = not_less x y (s 0 x (omega arith) (omega arith)) in
    let other : x ≡ y → ⊥ = λ e. true≢false (sym (eq-eqb x y e) ∙ d.0.0) in
    let less : x < y = omega arith in
    ((less, weaker x y ys less rest.0), rest)

-- one more
among_inserted : (n k : ℕ) (ks : List ℕ) → is_among (inserted k ks) n ≡ ((k == n) || is_among ks n)
among_inserted n k [] = refl
among_inserted n k (j ∷ js) = by (nat_le k j) (among_inserted n k js)
  where
    by : (b : Bool) → is_among (inserted k js) n ≡ ((k == n) || is_among js n)
        → is_among (if b then k ∷ j ∷ js else j ∷ inserted k js) n ≡ ((k == n) || ((j == n) || is_among js n))
    by true h = refl
    by false h = ap (λ b. (j == n) || b) h ∙ or_swap (j == n) (k == n) (is_among js n)

pub among_rising : (ns : List ℕ) (n : ℕ) → is_among (rising ns) n ≡ is_among ns n
among_rising [] n = refl
among_rising (k ∷ ks) n = among_inserted n k (rising ks) ∙ ap (λ b. (k == n) || b) (among_rising ks n)

above_inserted : (x k : ℕ) (ks : List ℕ) → x < k → AllByRecursion (λ y. x < y) ks
    → AllByRecursion (λ y. x < y) (inserted k ks)
above_inserted x k [] less a = (less, tt)
above_inserted x k (j ∷ js) less a = by (above_inserted x k js less a.1) (nat_le k j)
  where
    by : AllByRecursion (λ y. x < y) (inserted k js) → (b : Bool)
        → AllByRecursion (λ y. x < y) (if b then k ∷ j ∷ js else j ∷ inserted k js)
    by more true = (less, a)
    by more false = (a.0, more)

inserted_rises : (k : ℕ) (ks : List ℕ) → is_among ks k ≡ false → Rises ks → Rises (inserted k ks)
inserted_rises k [] n r = (tt, tt)
inserted_rises k (j ∷ js) n r = by (λ m. inserted_rises k js m r.1) (j == k) refl n (nat_le k j) refl
  where
    by : (is_among js k ≡ false → Rises (inserted k js)) → (c : Bool) → (j == k) ≡ c → (c || is_among js k) ≡ false
        → (b : Bool) → nat_le k j ≡ b → Rises (if b then k ∷ j ∷ js else j ∷ inserted k js)
    by more true e m b t = absurd (true≢false m)
    by more false e m true t =
        let le : k ≤ j = leb-true k j t in
        let other : j ≡ k → ⊥ = λ s. true≢false (sym (eq-eqb j k s) ∙ e) in
        let less : k < j = omega arith in
        ((less, weaker k j js less r.0), r)
    by more false e m false t =
        let less : j < k = leb_false k j t in
        (above_inserted j k js less r.0, more m)

none_among : (k : ℕ) (ks : List ℕ) → AllByRecursion (λ y. (k == y) ≡ false) ks → is_among ks k ≡ false
none_among k [] a = refl
none_among k (j ∷ js) a = rw (eqb_flip j k ∙ a.0, none_among k js a.1) refl

rising_rises : (ns : List ℕ) → IsDistinct ◌==◌ ns → Rises (rising ns)
unfolding IsDistinct
rising_rises [] d = tt
rising_rises (k ∷ ks) d = inserted_rises k (rising ks) (among_rising ks k ∙ none_among k ks d.0) (rising_rises ks d.1)

-- two rising lists of the same numbers are one
not_above : (x : ℕ) (ys : List ℕ) → AllByRecursion (λ y. x < y) ys → is_among ys x ≡ false
not_above x [] a = refl
not_above x (y ∷ ys) a = let less : x < y = a.0 in rw (ne_eqb y x (λ s. absurd (omega arith)), not_above x ys a.1) refl

above : (y n : ℕ) (zs : List ℕ) → AllByRecursion (λ z. y < z) zs → is_among zs n ≡ true → y < n
above y n [] b t = absurd (true≢false (sym t))
above y n (z ∷ zs) b t = found (λ k. above y n zs b.1 k) (z == n) refl t
  where
    found : (is_among zs n ≡ true → y < n) → (c : Bool) → (z == n) ≡ c → (c || is_among zs n) ≡ true → y < n
    found more true e t = let same : z ≡ n = eqb-true z n e in let less : y < z = b.0 in omega arith
    found more false e t = more t

at_least : (y n : ℕ) (ys : List ℕ) → AllByRecursion (λ z. y < z) ys → is_among (y ∷ ys) n ≡ true → y ≤ n
at_least y n ys a h = by (y == n) refl h
  where
    by : (b : Bool) → (y == n) ≡ b → (b || is_among ys n) ≡ true → y ≤ n
    by true e t = let same : y ≡ n = eqb-true y n e in omega arith
    by false e t = let less : y < n = above y n ys a t in omega arith

self_among : (x : ℕ) (xs : List ℕ) → is_among (x ∷ xs) x ≡ true
self_among x xs = rw (eq-eqb x x refl) refl

one_list : (xs ys : List ℕ) → Rises xs → Rises ys → ((n : ℕ) → is_among xs n ≡ is_among ys n) → xs ≡ ys
one_list [] [] p q h = refl
one_list [] (y ∷ ys) p q h = absurd (true≢false (sym (h y ∙ self_among y ys)))
one_list (x ∷ xs) [] p q h = absurd (true≢false (sym (self_among x xs) ∙ h x))
one_list (x ∷ xs) (y ∷ ys) p q h =
    let up : y ≤ x = at_least y x ys q.0 (sym (h x) ∙ self_among x xs) in
    let down : x ≤ y = at_least x y xs p.0 (h y ∙ self_among y ys) in
    let same : x ≡ y = omega arith in
    let above : AllByRecursion (λ z. x < z) ys = subst (λ w. AllByRecursion (λ z. w < z) ys) (sym same) q.0 in
    let tails : xs ≡ ys = one_list xs ys p.1 q.1 (λ n. rest n same above (x == n) refl) in
    λ i. same i ∷ tails i
  where
    rest : (n : ℕ) → x ≡ y → AllByRecursion (λ z. x < z) ys → (b : Bool) → (x == n) ≡ b → is_among xs n ≡ is_among ys n
    rest n s a true e = let here : x ≡ n = eqb-true x n e in ap (is_among xs) (sym here)
        ∙ (not_above x xs p.0 ∙ (sym (not_above x ys a) ∙ ap (is_among ys) here))
    rest n s a false e = sym (ap (λ b. b || is_among xs n) e)
        ∙ (h n ∙ ap (λ b. b || is_among ys n) (ap (λ k. k == n) (sym s) ∙ e))

-- the numbers that are listed rising
pub due_is : (test : Entry → Bool) (t : TableOf) (due : List ℕ) → IsSound t
    → ListsRising (serials_of test t.entries) due → due ≡ rising_serials test t.entries
due_is test t due sound l =
    let ns = serials_of test t.entries in
    let once : IsDistinct ◌==◌ ns = once_filter ◌==◌ Decides-eqb (λ e. e.serial) test t.entries sound.once in
    one_list due (rising ns) (sorted_rises due l.rising (IsDistinct-IsPermutation ◌==◌ eqb_flip ns due l.same once))
    (rising_rises ns once)
    (λ n. same_any due ns (λ p. sum_by-IsPermutation (λ k. cond (p k) 1 0) ns due l.same) (λ k. k == n)
    ∙ sym (among_rising ns n))

-- the table without those that have stood for their hard timeouts
pub expired_planned : (x : MemberStateOf) (due : List ℕ) (now : ℕ) → IsSound x.table → due
    ≡ rising_serials (is_hard_due now) x.table.entries → after_planned x (removal_planned x due) now ≡ expired now x
expired_planned x due now sound e =
    let t = x.table in
    let ns = serials_of (is_hard_due now) t.entries in
    let among : (n : ℕ) → is_among due n ≡ is_among ns n = λ n. ap (λ l. is_among l n) e ∙ among_rising ns n in
    let gone : committed t (removing due) ≡ without_expired now t =
    ap (λ (among : ℕ → Bool).
    record t {
      entries = map (changed_by [])
          (filter (λ (y : Entry). not (among y.serial) || is_number None y.serial) t.entries);
    }) (λ i n. among n i)
    ∙ removing_is t (is_hard_due now) sound in
    fresh x (removing due) (ranks_of t.entries due) x.levels now ∙ ap (λ (u : TableOf). with_table u x) gone
