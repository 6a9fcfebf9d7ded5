-- What is found among the entries of a table.
use Rattle.std.proofs.Common.{◌≡◌, ◌∙◌, ℕ, ◌<◌, ◌≤◌, ◌==◌, Bool, true, false, ◌||◌, ◌&&◌, List, [], ◌∷◌, map}
use Rattle.std.proofs.Common.{filter, find, Some, None, Option, if◌then◌else◌, cond, refl, sym, ap, ap₂, subst, nat_lt}
use Rattle.std.proofs.Common.{arith, true≢false, eqb-true, eq-eqb, ne_eqb, ltb-false, lt-ltb, le-ltb}
use Rattle.std.specs.List.{AllByRecursion, list_any}
use Rattle.std.specs.Ordering.{nat_cmp}
use Rattle.std.specs.Prelude.{IsPermutation, IsSorted}
use Rattle.std.proofs.lemmas.List.Sorted.{IsPermutation-sym, IsPermutation-trans}
use Rattle.of10_match.specs.Fields.{HeaderOf, MatchOf}
use Rattle.of10_match.specs.Highest.{higher}
use Rattle.of10_match.specs.Matching.{holds}
use Rattle.match_index.specs.InsideGroups.{SameItems}
use Rattle.match_index.specs.Items.{IsFirst, ids_of, is_before, same_item}
use Rattle.match_index.specs.Questions.{is_covered, is_holding}
use Rattle.match_index.specs.declared.item.Item.{Item}
use Rattle.match_index.proofs.Counts.{item_decides, same_any}
use Rattle.match_index.proofs.Rising.{ids_same}
use Rattle.switch_meaning.specs.MayUse.{rank_of}
use Rattle.soft_net.specs.Entries.{has_serial, is_at, item_of}
use Rattle.soft_net.specs.InsideTables.{AreRising, IsKeyed}
use Rattle.soft_net.specs.Tables.{best_entry, is_meant, serials_of}
use Rattle.soft_net.specs.declared.entry.Key.{Key}
use Rattle.soft_net.specs.declared.entry.SoftEntry.{SoftEntry}
use Rattle.soft_net.specs.declared.selection.Selection.TheVariants.{Covered}
use Rattle.soft_net.proofs.Listing.{all_filter, filter_no, filter_same, others_differ}
use Rattle.soft_net.proofs.Rising.{Rises, sorted_is}

-- ---- the numbers of entries

serials_rise : (es : List SoftEntry) → AreRising es → Rises (serials_of es)
serials_rise [] r = tt
serials_rise (e ∷ es) r = (above e es r.0, serials_rise es r.1)
  where
    above : (x : SoftEntry) (xs : List SoftEntry) → AllByRecursion (λ (d : SoftEntry). x.serial < d.serial) xs
        → AllByRecursion (λ n. x.serial < n) (serials_of xs)
    above x [] a = tt
    above x (y ∷ ys) a = (a.0, above x ys a.1)

rising_kept : (g : SoftEntry → Bool) (es : List SoftEntry) → AreRising es → AreRising (filter g es)
rising_kept g [] r = tt
rising_kept g (e ∷ es) r = by (g e) (rising_kept g es r.1)
  where
    by : (b : Bool) → AreRising (filter g es) → AreRising (cond b (e ∷ filter g es) (filter g es))
    by true m = (all_filter (λ (d : SoftEntry). e.serial < d.serial) g es r.0, m)
    by false m = m

ids_are : (p : Item → Bool) (es : List SoftEntry)
    → ids_of p (map item_of es) ≡ serials_of (filter (λ e. p (item_of e)) es)
ids_are p [] = refl
ids_are p (e ∷ es) = by (p (item_of e)) (ids_are p es)
  where
    by : (b : Bool) → ids_of p (map item_of es) ≡ serials_of (filter (λ d. p (item_of d)) es)
        → map (λ (i : Item). i.id) (cond b (item_of e ∷ filter p (map item_of es)) (filter p (map item_of es)))
        ≡ serials_of (cond b (e ∷ filter (λ d. p (item_of d)) es) (filter (λ d. p (item_of d)) es))
    by true m = ap (λ ns. e.serial ∷ ns) m
    by false m = m

-- what the index lists as covered are the numbers of the entries that are meant
pub covered_are : (m : MatchOf) (items : List Item) (es : List SoftEntry) (found : List ℕ) → AreRising es
    → SameItems items (map item_of es) → IsPermutation (ids_of (is_covered m) items) found → IsSorted nat_cmp found
    → found ≡ serials_of (filter (is_meant (Covered m)) es)
covered_are m items es found r same p s =
    let named : ids_of (is_covered m) (map item_of es) ≡ serials_of (filter (is_meant (Covered m)) es) =
    ids_are (is_covered m) es in
    let P : List ℕ → Type 0 = λ ns. IsPermutation ns found in
    sorted_is (serials_of (filter (is_meant (Covered m)) es)) found
    (serials_rise (filter (is_meant (Covered m)) es) (rising_kept (is_meant (Covered m)) es r))
    (subst P named (IsPermutation-trans (ids_of (is_covered m) (map item_of es)) (ids_of (is_covered m) items) found
    (IsPermutation-sym (ids_of (is_covered m) items) (ids_of (is_covered m) (map item_of es))
    (ids_same (is_covered m) items (map item_of es) same)) p)) s

-- of rising numbers the one that is there stands alone
once : (s : ℕ) (es : List SoftEntry) → AreRising es → list_any (has_serial s) es ≡ true
    → serials_of (filter (has_serial s) es) ≡ s ∷ []
once s [] r t = absurd (true≢false (sym t))
once s (e ∷ es) r t = by (has_serial s e) refl (λ m. once s es r.1 m)
  where
    by : (b : Bool) → has_serial s e ≡ b
        → (list_any (has_serial s) es ≡ true → serials_of (filter (has_serial s) es) ≡ s ∷ [])
        → serials_of (filter (has_serial s) (e ∷ es)) ≡ s ∷ []
    by true x m =
        let n = eqb-true s e.serial x in
        let D : ℕ → Type 0 = λ k. AllByRecursion (λ d. has_serial k d ≡ false) es in
        let none = filter_no (has_serial s) es (subst D (sym n) (others_differ e es r.0)) in
        ap (λ c. serials_of (cond c (e ∷ filter (has_serial s) es) (filter (has_serial s) es))) x
        ∙ ap₂ (λ k ds. k ∷ serials_of ds) (sym n) none
    by false x m =
        ap (λ c. serials_of (cond c (e ∷ filter (has_serial s) es) (filter (has_serial s) es))) x
        ∙ m (sym (ap (λ c. c || list_any (has_serial s) es) x) ∙ t)

pub at_none : (k : Key) (es : List SoftEntry) → IsKeyed None k es → serials_of (filter (is_at k) es) ≡ []
at_none k es a = ap serials_of (filter_no (is_at k) es a)

pub at_one : (k : Key) (s : ℕ) (es : List SoftEntry) → AreRising es → IsKeyed (Some s) k es
    → serials_of (filter (is_at k) es) ≡ s ∷ []
at_one k s es r a = ap serials_of (filter_same (is_at k) (has_serial s) es a.0) ∙ once s es r a.1

-- ---- the entry of the highest rank

or_false : (a b : Bool) → (a || b) ≡ false → (a ≡ false) × (b ≡ false)
or_false true b h = absurd (true≢false h)
or_false false b h = (refl, h)

and_true : (a b : Bool) → (a && b) ≡ true → (a ≡ true) × (b ≡ true)
and_true true b h = (refl, h)
and_true false b h = absurd (true≢false (sym h))

abbrev rank : SoftEntry → ℕ
rank e = rank_of e.flow

abbrev is_it : HeaderOf → ℕ → ℕ → SoftEntry → Bool
is_it h s r e = holds e.flow.m h && ((e.serial == s) && (rank_of e.flow == r))

abbrev is_above : HeaderOf → ℕ → ℕ → SoftEntry → Bool
is_above h s r e = holds e.flow.m h && (nat_lt r (rank_of e.flow) || ((rank_of e.flow == r) && nat_lt e.serial s))

-- the best entry is the one of this number and rank
pub record IsBest (best found : Option SoftEntry) (r : ℕ) : Type 0 where
  pub entry : SoftEntry
  pub is : best ≡ Some entry
  pub there : found ≡ Some entry
  pub of_rank : rank_of entry.flow ≡ r

-- what is true of each entry is true of the best one, which holds the header
best_each : (P : SoftEntry → Type 0) (h : HeaderOf) (es : List SoftEntry) → AllByRecursion P es → (d : SoftEntry)
    → best_entry es h ≡ Some d → P d × (holds d.flow.m h ≡ true)
best_each P h [] a d t = absurd (cc)
best_each P h (e ∷ es) a d t =
    by (holds e.flow.m h) refl (best_entry es h) refl (λ x m. best_each P h es a.1 x m) t
  where
    some_is : (x y : SoftEntry) → Some x ≡ Some y → x ≡ y
    some_is x y q = cc

    B : SoftEntry → Type 0
    B x = P x × (holds x.flow.m h ≡ true)

    chosen : holds e.flow.m h ≡ true → (x : SoftEntry) → B x → (c : Bool) → Some (if c then x else e) ≡ Some d → B d
    chosen y x m true q = subst B (some_is x d q) m
    chosen y x m false q = subst B (some_is e d q) (a.0, y)

    by : (b : Bool) → holds e.flow.m h ≡ b → (o : Option SoftEntry) → best_entry es h ≡ o
        → ((x : SoftEntry) → best_entry es h ≡ Some x → B x) → (if b then higher rank e o else o) ≡ Some d → B d
    by true y None m r q = subst B (some_is e d q) (a.0, y)
    by true y (Some x) m r q = chosen y x (r x m) (nat_lt (rank e) (rank x)) q
    by false y o m r q = r d (m ∙ q)

-- an item that is it or stands behind it isn't above it
none_each : (h : HeaderOf) (s r : ℕ) (es : List SoftEntry) → list_any (is_above h s r) es ≡ false
    → AllByRecursion (λ e. is_above h s r e ≡ false) es
none_each h s r [] n = tt
none_each h s r (e ∷ es) n = let o = or_false (is_above h s r e) (list_any (is_above h s r) es) n in
    (o.0, none_each h s r es o.1)

not_above : (h : HeaderOf) (s r : ℕ) (e : SoftEntry) → holds e.flow.m h ≡ true → is_above h s r e ≡ false
    → (rank e ≤ r) × (((rank e == r) && nat_lt e.serial s) ≡ false)
not_above h s r e t n =
    let o = or_false (nat_lt r (rank e)) ((rank e == r) && nat_lt e.serial s)
    (sym (ap (λ b. b && (nat_lt r (rank e) || ((rank e == r) && nat_lt e.serial s))) t) ∙ n) in
    (ltb-false r (rank e) o.0, o.1)

-- the number is that of a later entry, so the entry has a lower one
later : (h : HeaderOf) (s r : ℕ) (e : SoftEntry) (es : List SoftEntry)
    → AllByRecursion (λ (d : SoftEntry). e.serial < d.serial) es → list_any (is_it h s r) es ≡ true → e.serial < s
later h s r e [] a t = absurd (true≢false (sym t))
later h s r e (d ∷ ds) a t = by (is_it h s r d) refl (λ m. later h s r e ds a.1 m)
  where
    by : (b : Bool) → is_it h s r d ≡ b → (list_any (is_it h s r) ds ≡ true → e.serial < s) → e.serial < s
    by true x m =
        let y = and_true (d.serial == s) (rank d == r)
        (and_true (holds d.flow.m h) ((d.serial == s) && (rank d == r)) x).1 in
        let z = eqb-true d.serial s y.0 in
        omega (arith, a.0, z)
    by false x m = m (sym (ap (λ b. b || list_any (is_it h s r) ds) x) ∙ t)

best_more : (h : HeaderOf) (s r : ℕ) (e : SoftEntry) (es : List SoftEntry)
    → AllByRecursion (λ (d : SoftEntry). e.serial < d.serial) es → list_any (is_above h s r) es ≡ false
    → is_above h s r e ≡ false
    → (list_any (is_it h s r) es ≡ true → IsBest (best_entry es h) (find (has_serial s) es) r)
    → list_any (is_it h s r) (e ∷ es) ≡ true → (b : Bool) → holds e.flow.m h ≡ b
    → IsBest (if b then higher rank e (best_entry es h) else best_entry es h) (find (has_serial s) (e ∷ es)) r
best_more h s r e es up none here more any b t = by (is_it h s r e) refl b t
  where
    -- it stands behind
    behind : is_it h s r e ≡ false → list_any (is_it h s r) es ≡ true
    behind x = sym (ap (λ c. c || list_any (is_it h s r) es) x) ∙ any

    passed : is_it h s r e ≡ false → find (has_serial s) (e ∷ es) ≡ find (has_serial s) es
    passed x =
        let l = later h s r e es up (behind x) in
        ap (λ c. cond c (Some e) (find (has_serial s) es)) (ne_eqb s e.serial (λ i. omega (arith, l, i)))

    itself : is_it h s r e ≡ true → IsBest (higher rank e (best_entry es h)) (find (has_serial s) (e ∷ es)) r
    itself x =
        let holds_it = and_true (holds e.flow.m h) ((e.serial == s) && (rank e == r)) x in
        let y = and_true (e.serial == s) (rank e == r) holds_it.1 in
        let n = eqb-true e.serial s y.0 in
        let m = eqb-true (rank e) r y.1 in
        record {
          entry = e;
          is = stays (best_entry es h) refl m n;
          there = ap (λ c. cond c (Some e) (find (has_serial s) es)) (eq-eqb s e.serial (sym n));
          of_rank = m;
        }
      where
        stays : (o : Option SoftEntry) → best_entry es h ≡ o → rank e ≡ r → e.serial ≡ s → higher rank e o ≡ Some e
        stays None q m n = refl
        stays (Some d) q m n =
            let w = best_each (λ c. is_above h s r c ≡ false) h es (none_each h s r es none) d q in
            let l = (not_above h s r d w.1 w.0).0 in
            ap (λ c. Some (if c then d else e)) (le-ltb (rank e) (rank d) (omega (arith, l, m)))

    lower : is_it h s r e ≡ false → holds e.flow.m h ≡ true → rank e < r
    lower x y =
        let l = later h s r e es up (behind x) in
        let w = not_above h s r e y here in
        let other : rank e ≡ r → ⊥ = λ q.
        true≢false (sym (ap₂ (λ c d. c && d) (eq-eqb (rank e) r q) (lt-ltb e.serial s l)) ∙ w.1) in
        omega (arith, w.0, other)

    by : (c : Bool) → is_it h s r e ≡ c → (d : Bool) → holds e.flow.m h ≡ d
        → IsBest (if d then higher rank e (best_entry es h) else best_entry es h) (find (has_serial s) (e ∷ es)) r
    by true x true y = itself x
    by true x false y =
        absurd (true≢false (sym (and_true (holds e.flow.m h) ((e.serial == s) && (rank e == r)) x).0 ∙ y))
    by false x true y =
        let m = more (behind x) in
        let l = lower x y in
        let n = m.of_rank in
        record {
          entry = m.entry;
          is = ap (higher rank e) m.is
              ∙ ap (λ c. Some (if c then m.entry else e)) (lt-ltb (rank e) (rank m.entry) (omega (arith, l, n)));
          there = passed x ∙ m.there;
          of_rank = n;
        }
    by false x false y =
        let m = more (behind x) in
        record { entry = m.entry; is = m.is; there = passed x ∙ m.there; of_rank = m.of_rank }

best_is : (h : HeaderOf) (s r : ℕ) (es : List SoftEntry) → AreRising es → list_any (is_it h s r) es ≡ true
    → list_any (is_above h s r) es ≡ false → IsBest (best_entry es h) (find (has_serial s) es) r
best_is h s r [] u any none = absurd (true≢false (sym any))
best_is h s r (e ∷ es) u any none =
    let o = or_false (is_above h s r e) (list_any (is_above h s r) es) none in
    best_more h s r e es u.0 o.1 o.0 (λ t. best_is h s r es u.1 t o.1) any (holds e.flow.m h) refl

pub best_none : (h : HeaderOf) (es : List SoftEntry) → list_any (λ e. holds e.flow.m h) es ≡ false
    → best_entry es h ≡ None
best_none h [] n = refl
best_none h (e ∷ es) n =
    let o = or_false (holds e.flow.m h) (list_any (λ d. holds d.flow.m h) es) n in
    ap (λ b. if b then higher rank e (best_entry es h) else best_entry es h) o.0 ∙ best_none h es o.1

pub any_map : (p : Item → Bool) (es : List SoftEntry) → list_any p (map item_of es) ≡ list_any (λ e. p (item_of e)) es
any_map p [] = refl
any_map p (e ∷ es) = ap (λ b. p (item_of e) || b) (any_map p es)

any_weaker : (p q : SoftEntry → Bool) → ((e : SoftEntry) → p e ≡ true → q e ≡ true) → (es : List SoftEntry)
    → list_any p es ≡ true → list_any q es ≡ true
any_weaker p q f [] t = t
any_weaker p q f (e ∷ es) t = by (p e) refl (q e) refl (λ m. any_weaker p q f es m)
  where
    by : (b : Bool) → p e ≡ b → (c : Bool) → q e ≡ c → (list_any p es ≡ true → list_any q es ≡ true)
        → list_any q (e ∷ es) ≡ true
    by b x true y m = ap (λ d. d || list_any q es) y
    by true x false y m = absurd (true≢false (sym (f e x) ∙ y))
    by false x false y m = ap (λ d. d || list_any q es) y ∙ m (sym (ap (λ d. d || list_any p es) x) ∙ t)

any_stronger : (p q : SoftEntry → Bool) → ((e : SoftEntry) → q e ≡ true → p e ≡ true) → (es : List SoftEntry)
    → list_any p es ≡ false → list_any q es ≡ false
any_stronger p q f es n = by (list_any q es) refl
  where
    by : (b : Bool) → list_any q es ≡ b → list_any q es ≡ false
    by true t = absurd (true≢false (sym (any_weaker q p f es t) ∙ n))
    by false t = t

-- what the index finds first is the best entry
pub best_top : (h : HeaderOf) (top : Item) (items : List Item) (es : List SoftEntry) → AreRising es
    → SameItems items (map item_of es) → IsFirst (is_holding h) items top
    → find (has_serial top.id) es ≡ best_entry es h
best_top h top items es rising same f =
    let b = best_is h top.id top.rank es rising there none in b.there ∙ sym b.is
  where
    alike : (p : Item → Bool) → list_any p items ≡ list_any p (map item_of es)
    alike = same_any items (map item_of es) same

    passes : (e : SoftEntry) → same_item top (item_of e) ≡ true → is_it h top.id top.rank e ≡ true
    passes e t =
        let s = (item_decides top (item_of e)).0 t in
        let a : holds e.flow.m h ≡ true = sym (ap (λ (x : Item). holds x.normal h) s) ∙ f.passes in
        let b = eq-eqb e.serial top.id (sym (ap (λ (x : Item). x.id) s)) in
        let c = eq-eqb (rank e) top.rank (sym (ap (λ (x : Item). x.rank) s)) in
        ap₂ (λ x y. x && y) a (ap₂ (λ x y. x && y) b c)

    there : list_any (is_it h top.id top.rank) es ≡ true
    there = any_weaker (λ e. same_item top (item_of e)) (is_it h top.id top.rank) passes es
        (sym (any_map (same_item top) es) ∙ (sym (alike (same_item top)) ∙ f.there))

    before : Item → Bool
    before x = is_holding h x && is_before x top

    none : list_any (is_above h top.id top.rank) es ≡ false
    none = any_stronger (λ e. before (item_of e)) (is_above h top.id top.rank) (λ e t. t) es
        (sym (any_map before es) ∙ (sym (alike before) ∙ f.none_before))
