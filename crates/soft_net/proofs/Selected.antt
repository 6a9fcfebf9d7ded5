-- What is done with the entries of some numbers.
use Rattle.std.proofs.Common.{◌≡◌, ◌∙◌, ℕ, ◌<◌, ◌==◌, Bool, true, false, ◌||◌, ◌&&◌, not, List, [], ◌∷◌, ◌++◌, map}
use Rattle.std.proofs.Common.{filter, find, Some, Option, if◌then◌else◌, cond, refl, sym, ap, ap₂, length}
use Rattle.std.proofs.Common.{arith, eq-eqb, ne_eqb}
use Rattle.std.specs.List.{AllByRecursion, list_any}
use Rattle.std.specs.Prelude.{flat_map}
use Rattle.soft_net.specs.Entries.{has_serial, outputs_to}
use Rattle.soft_net.specs.InsideTables.{AreRising, number_if}
use Rattle.soft_net.specs.Tables.{TableOf, changed_all, changed_at, serials_of, without, without_all}
use Rattle.soft_net.specs.declared.entry.SoftEntry.{SoftEntry}
use Rattle.soft_net.proofs.Listing.{all_both, all_map, filter_all, filter_same}

-- a number finds its entry
pub own_serial : (es : List SoftEntry) → AreRising es → AllByRecursion (λ e. find (has_serial e.serial) es ≡ Some e) es
own_serial [] r = tt
own_serial (e ∷ es) r = (
  ap (λ b. cond b (Some e) (find (has_serial e.serial) es)) (eq-eqb e.serial e.serial refl),
  all_map (λ d. (e.serial < d.serial) × (find (has_serial d.serial) es ≡ Some d))
      (λ d. find (has_serial d.serial) (e ∷ es) ≡ Some d) es
      (λ d m. ap (λ b. cond b (Some e) (find (has_serial d.serial) es))
      (ne_eqb d.serial e.serial (λ i. omega (arith, m.0, i))) ∙ m.1)
      (all_both (λ (d : SoftEntry). e.serial < d.serial) (λ d. find (has_serial d.serial) es ≡ Some d) es r.0
      (own_serial es r.1)),
)

-- what is told by numbers is told of the entries
pub told_are : {Y : Type 0} (h : Option SoftEntry → List Y) (es ds : List SoftEntry)
    → AllByRecursion (λ e. find (has_serial e.serial) es ≡ Some e) ds
    → flat_map (λ s. h (find (has_serial s) es)) (serials_of ds) ≡ flat_map (λ e. h (Some e)) ds
told_are h es [] a = refl
told_are h es (d ∷ ds) a = ap₂ (λ x y. x ++ y) (ap h a.0) (told_are h es ds a.1)

pub numbers_are : (p : SoftEntry → Bool) (port : ℕ) (es : List SoftEntry)
    → flat_map (λ e. number_if port (Some e)) (filter p es) ≡ serials_of (filter (λ e. p e && outputs_to port e) es)
numbers_are p port [] = refl
numbers_are p port (e ∷ es) = by (p e) (outputs_to port e) refl (numbers_are p port es)
  where
    N : List SoftEntry → List ℕ
    N ds = flat_map (λ d. number_if port (Some d)) ds

    by : (a b : Bool) → outputs_to port e ≡ b
        → N (filter p es) ≡ serials_of (filter (λ d. p d && outputs_to port d) es)
        → N (cond a (e ∷ filter p es) (filter p es))
        ≡ serials_of (cond (a && outputs_to port e) (e ∷ filter (λ d. p d && outputs_to port d) es)
        (filter (λ d. p d && outputs_to port d) es))
    by true true t m =
        ap (λ c. (if c then e.serial ∷ [] else []) ++ N (filter p es)) t
        ∙ (ap (λ ns. e.serial ∷ ns) m
        ∙ ap (λ c. serials_of (cond c (e ∷ filter (λ d. p d && outputs_to port d) es)
        (filter (λ d. p d && outputs_to port d) es))) (sym t))
    by true false t m =
        ap (λ c. (if c then e.serial ∷ [] else []) ++ N (filter p es)) t
        ∙ (m ∙ ap (λ c. serials_of (cond c (e ∷ filter (λ d. p d && outputs_to port d) es)
        (filter (λ d. p d && outputs_to port d) es))) (sym t))
    by false b t m = m

-- the entry's number is among these
abbrev pub is_among : List ℕ → SoftEntry → Bool
is_among ss e = list_any (λ k. has_serial k e) ss

all_of : {X : Type 0} (P : X → Type 0) → ((x : X) → P x) → (xs : List X) → AllByRecursion P xs
all_of P f [] = tt
all_of P f (x ∷ xs) = (f x, all_of P f xs)

filter_twice : {X : Type 0} (g h : X → Bool) (xs : List X) → filter g (filter h xs) ≡ filter (λ x. h x && g x) xs
filter_twice g h [] = refl
filter_twice g h (x ∷ xs) = by (h x) (filter_twice g h xs)
  where
    by : (b : Bool) → filter g (filter h xs) ≡ filter (λ y. h y && g y) xs
        → filter g (cond b (x ∷ filter h xs) (filter h xs))
        ≡ cond (b && g x) (x ∷ filter (λ y. h y && g y) xs) (filter (λ y. h y && g y) xs)
    by true m = ap (λ ys. cond (g x) (x ∷ ys) ys) m
    by false m = m

neither : (a b : Bool) → (not a && not b) ≡ not (a || b)
neither true b = refl
neither false b = refl

without_each : (ss : List ℕ) (t : TableOf)
    → without_all ss t ≡ record t { entries = filter (λ e. not (is_among ss e)) t.entries }
without_each [] t = λ i. record t {
  entries = sym (filter_all (λ (e : SoftEntry). true) t.entries
      (all_of (λ e. true ≡ true) (λ e. refl) t.entries)) i;
}
without_each (s ∷ ss) t =
    without_each ss (without s t)
    ∙ (λ i. record t {
      entries = (filter_twice (λ e. not (is_among ss e)) (λ e. not (has_serial s e)) t.entries
          ∙ filter_same (λ e. not (has_serial s e) && not (is_among ss e)) (λ e. not (is_among (s ∷ ss) e)) t.entries
          (all_of (λ e. (not (has_serial s e) && not (is_among ss e)) ≡ not (is_among (s ∷ ss) e))
          (λ e. neither (has_serial s e) (is_among ss e)) t.entries)) i;
    })

-- of those above a number none has it
none_among : (n : ℕ) (p : SoftEntry → Bool) (es : List SoftEntry)
    → AllByRecursion (λ (d : SoftEntry). n < d.serial) es
    → list_any (λ k. k == n) (serials_of (filter p es)) ≡ false
none_among n p [] a = refl
none_among n p (e ∷ es) a = by (p e) (none_among n p es a.1)
  where
    by : (b : Bool) → list_any (λ k. k == n) (serials_of (filter p es)) ≡ false
        → list_any (λ k. k == n) (serials_of (cond b (e ∷ filter p es) (filter p es))) ≡ false
    by true m =
        ap (λ c. c || list_any (λ k. k == n) (serials_of (filter p es)))
        (ne_eqb e.serial n (λ i. omega (arith, a.0, i))) ∙ m
    by false m = m

-- the entries whose numbers are among those of the entries that pass a test pass it
among_is : (p : SoftEntry → Bool) (es : List SoftEntry) → AreRising es
    → AllByRecursion (λ e. is_among (serials_of (filter p es)) e ≡ p e) es
among_is p [] r = tt
among_is p (e ∷ es) r = (
  own (p e) refl,
  all_map (λ d. (e.serial < d.serial) × (is_among (serials_of (filter p es)) d ≡ p d))
      (λ d. is_among (serials_of (filter p (e ∷ es))) d ≡ p d) es (λ d m. other d m.0 (p e) ∙ m.1)
      (all_both (λ (d : SoftEntry). e.serial < d.serial) (λ d. is_among (serials_of (filter p es)) d ≡ p d) es r.0
      (among_is p es r.1)),
)
  where
    own : (b : Bool) → p e ≡ b → is_among (serials_of (cond b (e ∷ filter p es) (filter p es))) e ≡ b
    own true t = ap (λ c. c || is_among (serials_of (filter p es)) e) (eq-eqb e.serial e.serial refl)
    own false t = none_among e.serial p es r.0

    other : (d : SoftEntry) → e.serial < d.serial → (b : Bool)
        → is_among (serials_of (cond b (e ∷ filter p es) (filter p es))) d ≡ is_among (serials_of (filter p es)) d
    other d l true =
        ap (λ c. c || is_among (serials_of (filter p es)) d) (ne_eqb e.serial d.serial (λ i. omega (arith, l, i)))
    other d l false = refl

pub without_are : (p : SoftEntry → Bool) (t : TableOf) → AreRising t.entries
    → without_all (serials_of (filter p t.entries)) t ≡ record t { entries = filter (λ e. not (p e)) t.entries }
without_are p t r =
    without_each (serials_of (filter p t.entries)) t
    ∙ (λ i. record t {
      entries = filter_same (λ e. not (is_among (serials_of (filter p t.entries)) e))
          (λ e. not (p e)) t.entries
          (all_map (λ e. is_among (serials_of (filter p t.entries)) e ≡ p e)
          (λ e. not (is_among (serials_of (filter p t.entries)) e) ≡ not (p e)) t.entries (λ e m. ap not m)
          (among_is p t.entries r)) i;
    })

-- ---- entries that change

map_same : (f g : SoftEntry → SoftEntry) (es : List SoftEntry) → AllByRecursion (λ e. f e ≡ g e) es
    → map f es ≡ map g es
map_same f g [] a = refl
map_same f g (e ∷ es) a = ap₂ (λ x xs. x ∷ xs) a.0 (map_same f g es a.1)

map_twice : (f g : SoftEntry → SoftEntry) (es : List SoftEntry) → map f (map g es) ≡ map (λ e. f (g e)) es
map_twice f g [] = refl
map_twice f g (e ∷ es) = ap (λ xs. f (g e) ∷ xs) (map_twice f g es)

map_nothing : (es : List SoftEntry) → map (λ e. e) es ≡ es
map_nothing [] = refl
map_nothing (e ∷ es) = ap (λ xs. e ∷ xs) (map_nothing es)

module _ (f : SoftEntry → SoftEntry) (once : (e : SoftEntry) → f (f e) ≡ f e)
    (keeps : (e : SoftEntry) → (f e).serial ≡ e.serial) where
  changed_each : (ss : List ℕ) (t : TableOf)
      → changed_all ss f t ≡ record t { entries = map (λ e. if is_among ss e then f e else e) t.entries }
  changed_each [] t = λ i. record t { entries = sym (map_nothing t.entries) i }
  changed_each (s ∷ ss) t =
      changed_each ss (changed_at s f t)
      ∙ (λ i. record t {
        entries = (map_twice (λ e. if is_among ss e then f e else e)
            (λ e. if has_serial s e then f e else e) t.entries
            ∙ map_same (λ e. if is_among ss (if has_serial s e then f e else e)
            then f (if has_serial s e then f e else e) else (if has_serial s e then f e else e))
            (λ e. if is_among (s ∷ ss) e then f e else e) t.entries
            (all_of (λ e. (if is_among ss (if has_serial s e then f e else e)
            then f (if has_serial s e then f e else e) else (if has_serial s e then f e else e))
            ≡ (if is_among (s ∷ ss) e then f e else e)) (λ e. each e (has_serial s e)) t.entries)) i;
      })
    where
      each : (e : SoftEntry) (b : Bool)
          → (if is_among ss (if b then f e else e) then f (if b then f e else e) else (if b then f e else e))
          ≡ (if b || is_among ss e then f e else e)
      each e true = inner (is_among ss (f e))
        where
          inner : (c : Bool) → (if c then f (f e) else f e) ≡ f e
          inner true = once e
          inner false = refl
      each e false = refl

  pub changed_are : (p : SoftEntry → Bool) (t : TableOf) → AreRising t.entries
      → changed_all (serials_of (filter p t.entries)) f t
      ≡ record t { entries = map (λ e. if p e then f e else e) t.entries }
  changed_are p t r =
      changed_each (serials_of (filter p t.entries)) t
      ∙ (λ i. record t {
        entries = map_same
            (λ e. if is_among (serials_of (filter p t.entries)) e then f e else e) (λ e. if p e then f e else e) t.entries
            (all_map (λ e. is_among (serials_of (filter p t.entries)) e ≡ p e)
            (λ e. (if is_among (serials_of (filter p t.entries)) e then f e else e) ≡ (if p e then f e else e)) t.entries
            (λ e m. ap (λ b. if b then f e else e) m) (among_is p t.entries r)) i;
      })

-- ---- whether there are any

pub any_meant : (p : SoftEntry → Bool) (es : List SoftEntry)
    → (length (serials_of (filter p es)) == 0) ≡ not (list_any p es)
any_meant p [] = refl
any_meant p (e ∷ es) = by (p e) (any_meant p es)
  where
    by : (b : Bool) → (length (serials_of (filter p es)) == 0) ≡ not (list_any p es)
        → (length (serials_of (cond b (e ∷ filter p es) (filter p es))) == 0) ≡ not (b || list_any p es)
    by true m = ne_eqb (length (serials_of (e ∷ filter p es))) 0 (λ q. omega (arith, q))
    by false m = m

-- what statistics tell of entries, one after the other
pub told_each : {Y : Type 0} (f : SoftEntry → Y) (ds : List SoftEntry) → flat_map (λ e. f e ∷ []) ds ≡ map f ds
told_each f [] = refl
told_each f (d ∷ ds) = ap (λ ys. f d ∷ ys) (told_each f ds)

-- what is kept of one more
pub filter_pushed : {X Y : Type 0} (test : Y → Bool) (d : X → Y) (xs : List X) (x : X)
    → filter test (map d (xs ++ x ∷ [])) ≡ filter test (map d xs) ++ (if test (d x) then d x ∷ [] else [])
filter_pushed test d [] x = by (test (d x))
  where
    by : (b : Bool) → cond b (d x ∷ []) [] ≡ (if b then d x ∷ [] else [])
    by true = refl
    by false = refl
filter_pushed {Y = Y} test d (y ∷ ys) x = by (test (d y)) (filter_pushed test d ys x)
  where
    last : List Y
    last = if test (d x) then d x ∷ [] else []

    by : (b : Bool) → filter test (map d (ys ++ x ∷ [])) ≡ filter test (map d ys) ++ last
        → cond b (d y ∷ filter test (map d (ys ++ x ∷ []))) (filter test (map d (ys ++ x ∷ [])))
        ≡ cond b (d y ∷ filter test (map d ys)) (filter test (map d ys)) ++ last
    by true m = ap (λ zs. d y ∷ zs) m
    by false m = m
