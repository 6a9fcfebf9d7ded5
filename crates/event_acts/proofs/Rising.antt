-- Numbers in rising order, of which some are left out.
use Rattle.std.proofs.Common.{◌≡◌, ◌∙◌, ℕ, ◌≤◌, Bool, true, false, List, [], ◌∷◌, map, refl, sym, ap, arith}
use Rattle.std.specs.Prelude.{◌&&◌, filter, if◌then◌else◌, nat_le}
use Rattle.std.specs.List.{AllByRecursion}
use Rattle.std.proofs.lemmas.Bool.Decides.{nat_tests}
use Rattle.member_state.specs.Changes.{inserted, rising, rising_serials}
use Rattle.member_table.specs.Timeouts.{serials_of}
use Rattle.member_table.specs.declared.entry.Entry.{Entry}

-- each number is at most those behind it
abbrev AreUp : List ℕ → Type 0
AreUp [] = Unit {0}
AreUp (k ∷ ks) = AllByRecursion (λ j. k ≤ j) ks × AreUp ks

all_from : (n k : ℕ) (ks : List ℕ) → n ≤ k → AllByRecursion (λ j. k ≤ j) ks → AllByRecursion (λ j. n ≤ j) ks
all_from n k [] le h = tt
all_from n k (j ∷ js) le h = let at : k ≤ j = h.0 in ((let b : n ≤ j = omega arith in b), all_from n k js le h.1)

all_inserted : (P : ℕ → Type 0) (n : ℕ) (ks : List ℕ) → P n → AllByRecursion P ks → AllByRecursion P (inserted n ks)
all_inserted P n [] p h = (p, tt)
all_inserted P n (k ∷ ks) p h = by (nat_le n k) (all_inserted P n ks p h.1)
  where
    by : (b : Bool) → AllByRecursion P (inserted n ks)
        → AllByRecursion P (if b then n ∷ k ∷ ks else k ∷ inserted n ks)
    by true r = (p, h)
    by false r = (h.0, r)

all_filtered : (P : ℕ → Type 0) (test : ℕ → Bool) (ks : List ℕ) → AllByRecursion P ks
    → AllByRecursion P (filter test ks)
all_filtered P test [] h = tt
all_filtered P test (k ∷ ks) h = by (test k) (all_filtered P test ks h.1)
  where
    by : (b : Bool) → AllByRecursion P (filter test ks)
        → AllByRecursion P (if b then k ∷ filter test ks else filter test ks)
    by true r = (h.0, r)
    by false r = r

is_at_most : (n k : ℕ) → nat_le n k ≡ true → n ≤ k
is_at_most n k e = grind (arith, nat_tests)

is_above : (n k : ℕ) → nat_le n k ≡ false → k ≤ n
is_above n k e = grind (arith, nat_tests)

tells_most : (n k : ℕ) → n ≤ k → nat_le n k ≡ true
tells_most n k h = grind (arith, nat_tests)

up_inserted : (n : ℕ) (ks : List ℕ) → AreUp ks → AreUp (inserted n ks)
up_inserted n [] h = (tt, tt)
up_inserted n (k ∷ ks) h = by (nat_le n k) refl (up_inserted n ks h.1)
  where
    by : (b : Bool) → nat_le n k ≡ b → AreUp (inserted n ks) → AreUp (if b then n ∷ k ∷ ks else k ∷ inserted n ks)
    by true e r = ((is_at_most n k e, all_from n k ks (is_at_most n k e) h.0), h)
    by false e r = (all_inserted (λ j. k ≤ j) n ks (is_above n k e) h.0, r)

up_rising : (ns : List ℕ) → AreUp (rising ns)
up_rising [] = tt
up_rising (n ∷ ns) = up_inserted n (rising ns) (up_rising ns)

-- before all others
first_inserted : (n : ℕ) (ks : List ℕ) → AllByRecursion (λ j. n ≤ j) ks → inserted n ks ≡ n ∷ ks
first_inserted n [] h = refl
first_inserted n (k ∷ ks) h =
    ap (λ (b : Bool). if b then n ∷ k ∷ ks else k ∷ inserted n ks) (tells_most n k h.0)

filtered_inserted : (test : ℕ → Bool) (n : ℕ) (ks : List ℕ) → AreUp ks
    → filter test (inserted n ks) ≡ (if test n then inserted n (filter test ks) else filter test ks)
filtered_inserted test n [] h = refl
filtered_inserted test n (k ∷ ks) h = by (nat_le n k) refl (filtered_inserted test n ks h.1)
  where
    first : (b : Bool) → nat_le n k ≡ true
        → (if b then n ∷ filter test (k ∷ ks) else filter test (k ∷ ks))
        ≡ (if b then inserted n (filter test (k ∷ ks)) else filter test (k ∷ ks))
    first true e =
        sym (first_inserted n (filter test (k ∷ ks))
        (all_filtered (λ j. n ≤ j) test (k ∷ ks) (is_at_most n k e, all_from n k ks (is_at_most n k e) h.0)))
    first false e = refl

    behind : (a b : Bool) → nat_le n k ≡ false
        → (if b then k ∷ (if a then inserted n (filter test ks) else filter test ks)
        else (if a then inserted n (filter test ks) else filter test ks))
        ≡ (if a then inserted n (if b then k ∷ filter test ks else filter test ks)
        else (if b then k ∷ filter test ks else filter test ks))
    behind true true e =
        ap (λ (c : Bool). if c then n ∷ k ∷ filter test ks else k ∷ inserted n (filter test ks)) (sym e)
    behind true false e = refl
    behind false true e = refl
    behind false false e = refl

    by : (b : Bool) → nat_le n k ≡ b
        → filter test (inserted n ks) ≡ (if test n then inserted n (filter test ks) else filter test ks)
        → filter test (if b then n ∷ k ∷ ks else k ∷ inserted n ks)
        ≡ (if test n then inserted n (filter test (k ∷ ks)) else filter test (k ∷ ks))
    by true e r = first (test n) e
    by false e r = ap (λ (js : List ℕ). if test k then k ∷ js else js) r ∙ behind (test n) (test k) e

filtered_rising : (test : ℕ → Bool) (ns : List ℕ) → rising (filter test ns) ≡ filter test (rising ns)
filtered_rising test [] = refl
filtered_rising test (n ∷ ns) =
    by (test n) (filtered_rising test ns) ∙ sym (filtered_inserted test n (rising ns) (up_rising ns))
  where
    by : (b : Bool) → rising (filter test ns) ≡ filter test (rising ns)
        → rising (if b then n ∷ filter test ns else filter test ns)
        ≡ (if b then inserted n (filter test (rising ns)) else filter test (rising ns))
    by true r = ap (inserted n) r
    by false r = r

filtered_serials : (test : Entry → Bool) (more : ℕ → Bool) (es : List Entry)
    → serials_of (λ (e : Entry). test e && more e.serial) es ≡ filter more (serials_of test es)
filtered_serials test more [] = refl
filtered_serials test more (e ∷ es) = by (test e) (more e.serial) refl (filtered_serials test more es)
  where
    by : (a b : Bool) → more e.serial ≡ b
        → serials_of (λ (e : Entry). test e && more e.serial) es ≡ filter more (serials_of test es)
        → map (λ (e : Entry). e.serial) (if a && b then e ∷ filter (λ (e : Entry). test e && more e.serial) es
        else filter (λ (e : Entry). test e && more e.serial) es)
        ≡ filter more (map (λ (e : Entry). e.serial) (if a then e ∷ filter test es else filter test es))
    by true true h r =
        ap (λ (ns : List ℕ). e.serial ∷ ns) r
        ∙ ap (λ (c : Bool). if c then e.serial ∷ filter more (serials_of test es)
        else filter more (serials_of test es)) (sym h)
    by true false h r =
        r
        ∙ ap (λ (c : Bool). if c then e.serial ∷ filter more (serials_of test es)
        else filter more (serials_of test es)) (sym h)
    by false true h r = r
    by false false h r = r

-- of the numbers that pass a test some are left out
pub some_rising : (test : Entry → Bool) (more : ℕ → Bool) (es : List Entry)
    → rising_serials (λ (e : Entry). test e && more e.serial) es ≡ filter more (rising_serials test es)
some_rising test more es =
    ap rising (filtered_serials test more es) ∙ filtered_rising more (serials_of test es)
