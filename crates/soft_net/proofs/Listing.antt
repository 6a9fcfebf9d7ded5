-- Entries under their numbers: what is looked up, put in, taken out and changed.
use Rattle.std.proofs.Common.{◌≡◌, ◌∙◌, ℕ, ◌<◌, ◌==◌, Bool, true, false, not, List, [], ◌∷◌, ◌++◌, map}
use Rattle.std.proofs.Common.{filter, find, Some, if◌then◌else◌, cond, refl, sym, ap, ap₂, subst}
use Rattle.std.proofs.Common.{arith, eqb-true, ne_eqb, nat_lt, ltb-true}
use Rattle.std.specs.BTreeMap.{insert_entry, is_at}
use Rattle.std.specs.Cmp.{nat_cmp_is}
use Rattle.std.specs.List.{AllByRecursion}
use Rattle.std.specs.Map.{lookup, remove_entry}
use Rattle.std.specs.Ordering.{is_eq, match_ordering, nat_cmp}
use Rattle.std.specs.declared.cmp.Ordering.TheVariants.{Equal, Greater, Less}
use Rattle.soft_net.specs.Counting.{changed}
use Rattle.soft_net.specs.Entries.{has_serial}
use Rattle.soft_net.specs.InsideTables.{AreRising, entries_in, under_serial}
use Rattle.soft_net.specs.declared.entry.SoftEntry.{SoftEntry}

-- ---- what holds of each item

pub all_push : {X : Type 0} (P : X → Type 0) (xs : List X) (x : X) → AllByRecursion P xs → P x
    → AllByRecursion P (xs ++ x ∷ [])
all_push P [] x a p = (p, tt)
all_push P (y ∷ ys) x a p = (a.0, all_push P ys x a.1 p)

pub all_filter : {X : Type 0} (P : X → Type 0) (g : X → Bool) (xs : List X) → AllByRecursion P xs
    → AllByRecursion P (filter g xs)
all_filter P g [] a = tt
all_filter P g (x ∷ xs) a = by (g x) (all_filter P g xs a.1)
  where
    by : (b : Bool) → AllByRecursion P (filter g xs) → AllByRecursion P (cond b (x ∷ filter g xs) (filter g xs))
    by true r = (a.0, r)
    by false r = r

pub all_map : {X : Type 0} (P Q : X → Type 0) (xs : List X) → ((x : X) → P x → Q x) → AllByRecursion P xs
    → AllByRecursion Q xs
all_map P Q [] f a = tt
all_map P Q (x ∷ xs) f a = (f x a.0, all_map P Q xs f a.1)

pub all_both : {X : Type 0} (P Q : X → Type 0) (xs : List X) → AllByRecursion P xs → AllByRecursion Q xs
    → AllByRecursion (λ x. P x × Q x) xs
all_both P Q [] a b = tt
all_both P Q (x ∷ xs) a b = ((a.0, b.0), all_both P Q xs a.1 b.1)

-- what passes the test has what holds of each that passes it
pub all_filtered : {X : Type 0} (P : X → Type 0) (g : X → Bool) (xs : List X)
    → AllByRecursion (λ x. g x ≡ true → P x) xs → AllByRecursion P (filter g xs)
all_filtered P g [] a = tt
all_filtered P g (x ∷ xs) a = by (g x) refl (all_filtered P g xs a.1)
  where
    by : (b : Bool) → g x ≡ b → AllByRecursion P (filter g xs)
        → AllByRecursion P (cond b (x ∷ filter g xs) (filter g xs))
    by true t r = (a.0 t, r)
    by false t r = r

-- tests that agree on each keep the same
pub filter_same : {X : Type 0} (p q : X → Bool) (xs : List X) → AllByRecursion (λ x. p x ≡ q x) xs
    → filter p xs ≡ filter q xs
filter_same p q [] a = refl
filter_same p q (x ∷ xs) a =
    ap₂ (λ b ys. cond b (x ∷ ys) ys) a.0 (filter_same p q xs a.1)

pub filter_all : {X : Type 0} (p : X → Bool) (xs : List X) → AllByRecursion (λ x. p x ≡ true) xs → filter p xs ≡ xs
filter_all p [] a = refl
filter_all p (x ∷ xs) a = ap₂ (λ b ys. cond b (x ∷ ys) ys) a.0 (filter_all p xs a.1)

pub filter_no : {X : Type 0} (p : X → Bool) (xs : List X) → AllByRecursion (λ x. p x ≡ false) xs → filter p xs ≡ []
filter_no p [] a = refl
filter_no p (x ∷ xs) a = ap₂ (λ b ys. cond b (x ∷ ys) ys) a.0 (filter_no p xs a.1)

-- ---- entries that rise

pub rising_filter : (g : SoftEntry → Bool) (es : List SoftEntry) → AreRising es → AreRising (filter g es)
rising_filter g [] r = tt
rising_filter g (e ∷ es) r = by (g e) (rising_filter g es r.1)
  where
    by : (b : Bool) → AreRising (filter g es) → AreRising (cond b (e ∷ filter g es) (filter g es))
    by true m = (all_filter (λ (d : SoftEntry). e.serial < d.serial) g es r.0, m)
    by false m = m

pub rising_push : (es : List SoftEntry) (new : SoftEntry) → AreRising es
    → AllByRecursion (λ (e : SoftEntry). e.serial < new.serial) es → AreRising (es ++ new ∷ [])
rising_push [] new r b = (tt, tt)
rising_push (e ∷ es) new r b =
    (all_push (λ (d : SoftEntry). e.serial < d.serial) es new r.0 b.0, rising_push es new r.1 b.1)

-- those behind one have other numbers
pub others_differ : (e : SoftEntry) (es : List SoftEntry) → AllByRecursion (λ (d : SoftEntry). e.serial < d.serial) es
    → AllByRecursion (λ d. has_serial e.serial d ≡ false) es
others_differ e es a =
    all_map (λ (d : SoftEntry). e.serial < d.serial) (λ d. has_serial e.serial d ≡ false) es
    (λ d l. ne_eqb e.serial d.serial (λ s. omega (arith, l, s))) a

-- none below a number has it
pub below_differ : (n : ℕ) (es : List SoftEntry) → AllByRecursion (λ (e : SoftEntry). e.serial < n) es
    → AllByRecursion (λ e. has_serial n e ≡ false) es
below_differ n es a =
    all_map (λ (e : SoftEntry). e.serial < n) (λ e. has_serial n e ≡ false) es
    (λ e l. ne_eqb n e.serial (λ s. omega (arith, l, s))) a

-- ---- entries under their numbers

pub in_under : (es : List SoftEntry) → entries_in (map under_serial es) ≡ es
in_under [] = refl
in_under (e ∷ es) = ap (λ xs. e ∷ xs) (in_under es)

pub at_is : (s k : ℕ) → is_eq (nat_cmp s k) ≡ (s == k)
at_is s k = by (nat_lt s k) refl
  where
    equal : (b : Bool) → is_eq (cond b Equal Greater) ≡ b
    equal true = refl
    equal false = refl

    by : (b : Bool) → nat_lt s k ≡ b → is_eq (cond b Less (cond (s == k) Equal Greater)) ≡ (s == k)
    by true t = let l = ltb-true s k t in sym (ne_eqb s k (λ e. omega (arith, l, e)))
    by false t = equal (s == k)

pub lookup_under : (s : ℕ) (es : List SoftEntry)
    → lookup (is_at (nat_cmp s)) (map under_serial es) ≡ find (has_serial s) es
lookup_under s [] = refl
lookup_under s (e ∷ es) = ap₂ (λ b o. cond b (Some e) o) (at_is s e.serial) (lookup_under s es)

pub removed_under : (s : ℕ) (es : List SoftEntry) → AreRising es
    → remove_entry (is_at (nat_cmp s)) (map under_serial es)
    ≡ map under_serial (filter (λ e. not (has_serial s e)) es)
removed_under s [] r = refl
removed_under s (e ∷ es) r =
    ap (λ b. cond b (map under_serial es) (under_serial e ∷ remove_entry (is_at (nat_cmp s)) (map under_serial es)))
    (at_is s e.serial) ∙ by (has_serial s e) refl (removed_under s es r.1)
  where
    by : (b : Bool) → has_serial s e ≡ b
        → remove_entry (is_at (nat_cmp s)) (map under_serial es)
        ≡ map under_serial (filter (λ d. not (has_serial s d)) es)
        → cond b (map under_serial es) (under_serial e ∷ remove_entry (is_at (nat_cmp s)) (map under_serial es))
        ≡ map under_serial (cond (not b) (e ∷ filter (λ d. not (has_serial s d)) es)
        (filter (λ d. not (has_serial s d)) es))
    by true t m =
        let n = eqb-true s e.serial t in
        let D : ℕ → Type 0 = λ k. AllByRecursion (λ d. has_serial k d ≡ false) es in
        let a = subst D (sym n) (others_differ e es r.0) in
        ap (map under_serial) (sym (filter_all (λ d. not (has_serial s d)) es
        (all_map (λ d. has_serial s d ≡ false) (λ d. not (has_serial s d) ≡ true) es (λ d f. ap not f) a)))
    by false t m = ap (λ xs. under_serial e ∷ xs) m

pub inserted_under : (es : List SoftEntry) (new : SoftEntry)
    → AllByRecursion (λ (e : SoftEntry). e.serial < new.serial) es
    → insert_entry nat_cmp (map under_serial es) new.serial new ≡ map under_serial (es ++ new ∷ [])
inserted_under [] new b = refl
inserted_under (e ∷ es) new b =
    let after : nat_cmp new.serial e.serial ≡ Greater = sym (nat_cmp_is new.serial e.serial Greater b.0) in
    let rest = inserted_under es new b.1 in
    ap (λ o. match_ordering o ((new.serial, new) ∷ map under_serial (e ∷ es)) ((e.serial, new) ∷ map under_serial es)
    (under_serial e ∷ insert_entry nat_cmp (map under_serial es) new.serial new)) after
    ∙ ap (λ xs. under_serial e ∷ xs) rest

pub map_no : {X : Type 0} (p : X → Bool) (f : X → X) (xs : List X) → AllByRecursion (λ x. p x ≡ false) xs
    → map (λ x. if p x then f x else x) xs ≡ xs
map_no p f [] a = refl
map_no p f (x ∷ xs) a = ap₂ (λ b ys. (if b then f x else x) ∷ ys) a.0 (map_no p f xs a.1)

pub changed_under : (s : ℕ) (f : SoftEntry → SoftEntry) (es : List SoftEntry) → AreRising es
    → ((d : SoftEntry) → (f d).serial ≡ d.serial)
    → changed (is_at (nat_cmp s)) f (map under_serial es)
    ≡ map under_serial (map (λ d. if has_serial s d then f d else d) es)
changed_under s f [] r keeps = refl
changed_under s f (d ∷ es) r keeps =
    ap (λ b. cond b ((d.serial, f d) ∷ map under_serial es)
    (under_serial d ∷ changed (is_at (nat_cmp s)) f (map under_serial es)))
    (at_is s d.serial) ∙ by (has_serial s d) refl (changed_under s f es r.1 keeps)
  where
    by : (b : Bool) → has_serial s d ≡ b
        → changed (is_at (nat_cmp s)) f (map under_serial es)
        ≡ map under_serial (map (λ x. if has_serial s x then f x else x) es)
        → cond b ((d.serial, f d) ∷ map under_serial es)
        (under_serial d ∷ changed (is_at (nat_cmp s)) f (map under_serial es))
        ≡ map under_serial ((if b then f d else d) ∷ map (λ x. if has_serial s x then f x else x) es)
    by true t m =
        let n = eqb-true s d.serial t in
        let D : ℕ → Type 0 = λ k. AllByRecursion (λ x. has_serial k x ≡ false) es in
        let a = subst D (sym n) (others_differ d es r.0) in
        let head : ◌≡◌ {A = ℕ × SoftEntry} (d.serial, f d) (under_serial (f d)) = λ i. (sym (keeps d) i, f d) in
        ap₂ (λ p ps. p ∷ ps) head (ap (map under_serial) (sym (map_no (has_serial s) f es a)))
    by false t m = ap (λ ps. under_serial d ∷ ps) m
