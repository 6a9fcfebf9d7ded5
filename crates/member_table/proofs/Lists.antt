-- The first of a list that passes a test, and the list without it or with another in its place.
use Rattle.std.proofs.Common.{◌≡◌, ℕ, zero, suc, ◌<◌, ◌+◌, Bool, true, false, not, cond, ◌||◌, List, [], ◌∷◌, ◌++◌}
use Rattle.std.proofs.Common.{length, get_or, set, map, filter, find, remove, position, slice_get, Option, Some, None}
use Rattle.std.proofs.Common.{refl, sym, ap, ◌∙◌, arith, if◌then◌else◌, true≢false, ap₂, take, ◌-◌, swap_remove}
use Rattle.std.proofs.Common.{length-append, length-set, suc-add, lt-ltb, is_some, option_map, subst, nat_lt, ltb-true}
use Rattle.std.proofs.Common.{◌≤◌}
use Rattle.std.proofs.lemmas.List.{set-append_left}
use Rattle.std.specs.List.{list_any, position_or_len, AllByRecursion}
use Rattle.std.proofs.lemmas.List.Quantifiers.{position-Some}

-- the first that passes stands at this place
abbrev pub IsFirst : {X : Type 0} → (X → Bool) → List X → ℕ → Type 0
IsFirst p [] i = ⊥
IsFirst p (x ∷ xs) zero = p x ≡ true
IsFirst p (x ∷ xs) (suc i) = (p x ≡ false) × IsFirst p xs i

-- after one that passes none passes
abbrev pub IsOnce : {X : Type 0} → (X → Bool) → List X → Type 0
IsOnce p [] = Unit {0}
IsOnce p (x ∷ xs) = (p x ≡ true → list_any p xs ≡ false) × IsOnce p xs

first_from : {X : Type 0} (p : X → Bool) (xs : List X) (i : ℕ) (d : X) → i < length xs → p (get_or xs i d) ≡ true
    → ((k : ℕ) → k < i → p (get_or xs k d) ≡ false) → IsFirst p xs i
first_from p [] i d h t f = absurd (omega arith)
first_from p (x ∷ xs) zero d h t f = t
first_from p (x ∷ xs) (suc i) d h t f =
    (f 0 (omega arith), first_from p xs i d (omega arith) t (λ k l. f (suc k) (omega arith)))

pub IsFirst-position : {X : Type 0} (p : X → Bool) (xs : List X) (i : ℕ) → position p xs ≡ Some i → IsFirst p xs i
IsFirst-position p [] i e = absurd (cc)
IsFirst-position p (x ∷ xs) i e = let s = position-Some p (x ∷ xs) i x e in first_from p (x ∷ xs) i x s.0 s.1 s.2

pub IsFirst-map : {X Y : Type 0} (p : Y → Bool) (f : X → Y) (xs : List X) (i : ℕ) → IsFirst p (map f xs) i
    → IsFirst (λ x. p (f x)) xs i
IsFirst-map p f [] i h = h
IsFirst-map p f (x ∷ xs) zero h = h
IsFirst-map p f (x ∷ xs) (suc i) h = (h.0, IsFirst-map p f xs i h.1)

pub list_any-map : {X Y : Type 0} (p : Y → Bool) (f : X → Y) (xs : List X)
    → list_any p (map f xs) ≡ list_any (λ x. p (f x)) xs
list_any-map p f [] = refl
list_any-map p f (x ∷ xs) = ap (λ b. p (f x) || b) (list_any-map p f xs)

pub first_within : {X : Type 0} (p : X → Bool) (xs : List X) (i : ℕ) → IsFirst p xs i → i < length xs
first_within p [] i h = absurd h
first_within p (x ∷ xs) zero h = omega arith
first_within p (x ∷ xs) (suc i) h = let r = first_within p xs i h.1 in omega arith

pub find-first : {X : Type 0} (p : X → Bool) (xs : List X) (i : ℕ) → IsFirst p xs i → find p xs ≡ slice_get xs i
find-first p [] i h = absurd h
find-first p (x ∷ xs) zero h = rw h refl
find-first p (x ∷ xs) (suc i) h = rw h.0 (find-first p xs i h.1)

pub list_any-first : {X : Type 0} (p : X → Bool) (xs : List X) (i : ℕ) → IsFirst p xs i → list_any p xs ≡ true
list_any-first p [] i h = absurd h
list_any-first p (x ∷ xs) zero h = rw h refl
list_any-first p (x ∷ xs) (suc i) h = rw h.0 (list_any-first p xs i h.1)

pub or_false : (a b : Bool) → (a || b) ≡ false → (a ≡ false) × (b ≡ false)
or_false true b h = absurd (true≢false h)
or_false false b h = (refl, h)

pub find-none : {X : Type 0} (p : X → Bool) (xs : List X) → list_any p xs ≡ false → find p xs ≡ None
find-none p [] h = refl
find-none p (x ∷ xs) h = let o = or_false (p x) (list_any p xs) h in rw o.0 (find-none p xs o.1)

-- a list without what passes, where nothing passes
pub filter-none : {X : Type 0} (p : X → Bool) (xs : List X) → list_any p xs ≡ false → filter (λ x. not (p x)) xs ≡ xs
filter-none p [] h = refl
filter-none p (x ∷ xs) h = let o = or_false (p x) (list_any p xs) h in rw o.0 (ap (λ ys. x ∷ ys) (filter-none p xs o.1))

-- and where one passes
pub filter-first : {X : Type 0} (p : X → Bool) (xs : List X) (i : ℕ) → IsOnce p xs → IsFirst p xs i
    → filter (λ x. not (p x)) xs ≡ remove xs i
filter-first p [] i o h = absurd h
filter-first p (x ∷ xs) zero o h = rw h (filter-none p xs (o.0 h))
filter-first p (x ∷ xs) (suc i) o h = rw h.0 (ap (λ ys. x ∷ ys) (filter-first p xs i o.1 h.1))

-- a change of what passes, where nothing passes
pub map-none : {X : Type 0} (p : X → Bool) (f : X → X) (xs : List X) → list_any p xs ≡ false
    → map (λ x. if p x then f x else x) xs ≡ xs
map-none p f [] h = refl
map-none p f (x ∷ xs) h = let o = or_false (p x) (list_any p xs) h in rw o.0 (ap (λ ys. x ∷ ys) (map-none p f xs o.1))

-- and where one passes
pub map-first : {X : Type 0} (p : X → Bool) (f : X → X) (xs : List X) (i : ℕ) (x : X) → IsOnce p xs → IsFirst p xs i
    → slice_get xs i ≡ Some x → map (λ y. if p y then f y else y) xs ≡ set xs i (f x)
map-first p f [] i x o h g = absurd h
map-first p f (y ∷ xs) zero x o h g =
    let e : y ≡ x = cc in
    rw h (ap₂ (λ z zs. z ∷ zs) (ap f e) (map-none p f xs (o.0 h)))
map-first p f (y ∷ xs) (suc i) x o h g = rw h.0 (ap (λ ys. y ∷ ys) (map-first p f xs i x o.1 h.1 g))

pub map-remove : {X Y : Type 0} (f : X → Y) (xs : List X) (i : ℕ) → map f (remove xs i) ≡ remove (map f xs) i
map-remove f [] zero = refl
map-remove f [] (suc i) = refl
map-remove f (x ∷ xs) zero = refl
map-remove f (x ∷ xs) (suc i) = ap (λ ys. f x ∷ ys) (map-remove f xs i)

take_front : {X : Type 0} (ys zs : List X) (n : ℕ) → n ≡ length ys → take n (ys ++ zs) ≡ ys
take_front [] zs zero e = refl
take_front [] zs (suc n) e = absurd (omega arith)
take_front (y ∷ ys) zs zero e = absurd (omega arith)
take_front (y ∷ ys) zs (suc n) e = ap (λ xs. y ∷ xs) (take_front ys zs n (omega arith))

last_of : {X : Type 0} (xs : List X) (x d : X) (n : ℕ) → n ≡ length xs → get_or (xs ++ x ∷ []) n d ≡ x
last_of [] x d zero e = refl
last_of [] x d (suc n) e = absurd (omega arith)
last_of (y ∷ xs) x d zero e = absurd (omega arith)
last_of (y ∷ xs) x d (suc n) e = last_of xs x d n (omega arith)

-- the last one takes the place of another
pub swap_remove-pushed : {X : Type 0} (xs : List X) (x d : X) (i : ℕ) → i < length xs
    → swap_remove (xs ++ x ∷ []) i d ≡ set xs i x
swap_remove-pushed xs x d i h =
    let n : length (xs ++ x ∷ []) - 1 ≡ length xs = rw length-append (omega arith) in
    let e : get_or (xs ++ x ∷ []) (length (xs ++ x ∷ []) - 1) d ≡ x = last_of xs x d _ n in
    let s : set (xs ++ x ∷ []) i (get_or (xs ++ x ∷ []) (length (xs ++ x ∷ []) - 1) d) ≡ set xs i x ++ x ∷ [] =
    rw e (set-append_left xs (x ∷ []) i x h) in
    ap (take (length (xs ++ x ∷ []) - 1)) s ∙ take_front (set xs i x) (x ∷ []) _ (n ∙ sym (length-set xs i x))

-- one more from the front
pub take_pushed : {X : Type 0} (xs : List X) (i : ℕ) (x : X) → i < length xs → x ≡ get_or xs i x
    → take (i + 1) xs ≡ take i xs ++ x ∷ []
take_pushed [] i x h e = absurd (omega arith)
take_pushed (y ∷ xs) zero x h e = ap (λ z. z ∷ []) (sym e)
take_pushed (y ∷ xs) (suc i) x h e = rw suc-add (ap (λ zs. y ∷ zs) (take_pushed xs i x (omega arith) e))

within_more : {X : Type 0} (p : X → Bool) (x : X) (xs : List X) (b : Bool) → p x ≡ b
    → (list_any p xs ≡ true → position_or_len p xs < length xs) → list_any p (x ∷ xs) ≡ true
    → position_or_len p (x ∷ xs) < length (x ∷ xs)
within_more p x xs true e more h = rw e (omega arith)
within_more p x xs false e more h = let r = more (rw e at h) in rw e (omega arith)

any_within : {X : Type 0} (p : X → Bool) (xs : List X) → list_any p xs ≡ true → position_or_len p xs < length xs
any_within p [] h = absurd (true≢false (sym h))
any_within p (x ∷ xs) h = within_more p x xs (p x) refl (any_within p xs) h

pub position-any : {X : Type 0} (p : X → Bool) (xs : List X) → list_any p xs ≡ true
    → position p xs ≡ Some (position_or_len p xs)
position-any p xs h = rw (lt-ltb (position_or_len p xs) (length xs) (any_within p xs h)) refl

-- a test that something passes finds it
pub any_find : {X : Type 0} (p : X → Bool) (xs : List X) → list_any p xs ≡ is_some (find p xs)
any_find p [] = refl
any_find p (x ∷ xs) = by (p x) (any_find p xs)
  where
    by : (b : Bool) → list_any p xs ≡ is_some (find p xs) → (b || list_any p xs) ≡ is_some (cond b (Some x) (find p xs))
    by true e = refl
    by false e = e

-- what is found passes
pub found_passes : {X : Type 0} (p : X → Bool) (xs : List X) (x : X) → find p xs ≡ Some x → p x ≡ true
found_passes p [] x e = absurd (cc)
found_passes p (y ∷ xs) x e = by (p y) refl e (λ h. found_passes p xs x h)
  where
    by : (b : Bool) → p y ≡ b → cond b (Some y) (find p xs) ≡ Some x → (find p xs ≡ Some x → p x ≡ true) → p x ≡ true
    by true t e r = let s : y ≡ x = cc in ap p (sym s) ∙ t
    by false t e r = r e

-- what is found in a list without what passes another test
pub find_kept : {X : Type 0} (p q : X → Bool) (xs : List X) → AllByRecursion (λ x. q x ≡ true → p x ≡ false) xs
    → find p (filter (λ x. not (q x)) xs) ≡ find p xs
find_kept p q [] a = refl
find_kept p q (x ∷ xs) a = by (q x) refl (find_kept p q xs a.1)
  where
    by : (b : Bool) → q x ≡ b → find p (filter (λ y. not (q y)) xs) ≡ find p xs
        → find p (cond (not b) (x ∷ filter (λ y. not (q y)) xs) (filter (λ y. not (q y)) xs)) ≡ find p (x ∷ xs)
    by true t r = r ∙ sym (ap (λ c. cond c (Some x) (find p xs)) (a.0 t))
    by false t r = ap (cond (p x) (Some x)) r

pub find_gone : {X : Type 0} (p q : X → Bool) (xs : List X) → AllByRecursion (λ x. p x ≡ true → q x ≡ true) xs
    → find p (filter (λ x. not (q x)) xs) ≡ None
find_gone p q [] a = refl
find_gone p q (x ∷ xs) a = by (q x) refl (p x) refl (find_gone p q xs a.1)
  where
    by : (b : Bool) → q x ≡ b → (c : Bool) → p x ≡ c → find p (filter (λ y. not (q y)) xs) ≡ None
        → find p (cond (not b) (x ∷ filter (λ y. not (q y)) xs) (filter (λ y. not (q y)) xs)) ≡ None
    by true t c s r = r
    by false t true s r = absurd (true≢false (sym (a.0 s) ∙ t))
    by false t false s r = ap (λ d. cond d (Some x) (find p (filter (λ y. not (q y)) xs))) s ∙ r

-- the one that passes is what is found
none_passes : {X : Type 0} (p : X → Bool) (x : X) (xs : List X) → list_any p xs ≡ false
    → AllByRecursion (λ y. p y ≡ true → y ≡ x) xs
none_passes p x [] n = tt
none_passes p x (y ∷ xs) n = let o = or_false (p y) (list_any p xs) n in
    (λ t. absurd (true≢false (sym t ∙ o.0)), none_passes p x xs o.1)

pub only_one : {X : Type 0} (p : X → Bool) (xs : List X) (x : X) → IsOnce p xs → find p xs ≡ Some x
    → AllByRecursion (λ y. p y ≡ true → y ≡ x) xs
only_one p [] x o f = tt
only_one p (y ∷ xs) x o f = by (p y) refl f (λ h. only_one p xs x o.1 h)
  where
    by : (b : Bool) → p y ≡ b → cond b (Some y) (find p xs) ≡ Some x
        → (find p xs ≡ Some x → AllByRecursion (λ z. p z ≡ true → z ≡ x) xs)
        → (p y ≡ true → y ≡ x) × AllByRecursion (λ z. p z ≡ true → z ≡ x) xs
    by true t f r = (λ s. cc, none_passes p x xs (o.0 t))
    by false t f r = (λ s. absurd (true≢false (sym s ∙ t)), r f)

-- what is true of each is true of what is found
pub found_has : {X : Type 0} (P : X → Type 0) (p : X → Bool) (xs : List X) (x : X) → AllByRecursion P xs
    → find p xs ≡ Some x → P x
found_has P p [] x a e = absurd (cc)
found_has P p (y ∷ xs) x a e = by (p y) e (λ h. found_has P p xs x a.1 h)
  where
    by : (b : Bool) → cond b (Some y) (find p xs) ≡ Some x → (find p xs ≡ Some x → P x) → P x
    by true e r = let s : y ≡ x = cc in subst P s a.0
    by false e r = r e

-- where the one that passes one test is the one that passes another, it stands first for both
pub same_first : {X : Type 0} (p q : X → Bool) (x : X) (xs : List X) (i : ℕ)
    → AllByRecursion (λ y. q y ≡ true → y ≡ x) xs → AllByRecursion (λ y. p y ≡ true → y ≡ x) xs → q x ≡ true
    → p x ≡ true → IsFirst q xs i → IsFirst p xs i
same_first p q x [] i a b s t h = absurd h
same_first p q x (y ∷ xs) zero a b s t h = ap p (a.0 h) ∙ t
same_first p q x (y ∷ xs) (suc i) a b s t h = (not_here (p y) refl, same_first p q x xs i a.1 b.1 s t h.1)
  where
    not_here : (c : Bool) → p y ≡ c → p y ≡ false
    not_here true u = absurd (true≢false (sym (ap q (b.0 u) ∙ s) ∙ h.0))
    not_here false u = u

-- a change that leaves the test as it is
pub find_map : {X : Type 0} (p : X → Bool) (f : X → X) → ((x : X) → p (f x) ≡ p x) → (xs : List X)
    → find p (map f xs) ≡ option_map f (find p xs)
find_map p f same [] = refl
find_map p f same (x ∷ xs) = by (p x) (same x) (find_map p f same xs)
  where
    by : (b : Bool) → p (f x) ≡ b → find p (map f xs) ≡ option_map f (find p xs)
        → find p (f x ∷ map f xs) ≡ option_map f (cond b (Some x) (find p xs))
    by true t r = ap (λ c. cond c (Some (f x)) (find p (map f xs))) t
    by false t r = ap (λ c. cond c (Some (f x)) (find p (map f xs))) t ∙ r

pub each_false : {X : Type 0} (p : X → Bool) (xs : List X) → list_any p xs ≡ false
    → AllByRecursion (λ x. p x ≡ false) xs
each_false p [] n = tt
each_false p (x ∷ xs) n = let o = or_false (p x) (list_any p xs) n in (o.0, each_false p xs o.1)

-- what stands at a place
pub slice_got : {X : Type 0} (xs : List X) (i : ℕ) (x : X) → true ≡ nat_lt i (length xs) → x ≡ get_or xs i x
    → slice_get xs i ≡ Some x
slice_got xs i x b e = by xs i (ltb-true i (length xs) (sym b)) e
  where
    by : (ys : List _) (j : ℕ) → j < length ys → x ≡ get_or ys j x → slice_get ys j ≡ Some x
    by [] j h e = absurd (omega arith)
    by (y ∷ ys) zero h e = ap Some (sym e)
    by (y ∷ ys) (suc j) h e = by ys j (omega arith) e

pub slice_past : {X : Type 0} (xs : List X) (i : ℕ) → length xs ≤ i → slice_get xs i ≡ None
slice_past [] zero h = refl
slice_past [] (suc i) h = refl
slice_past (x ∷ xs) zero h = absurd (omega arith)
slice_past (x ∷ xs) (suc i) h = slice_past xs i (omega arith)

-- where nothing is found, nothing passes
pub none_mapped : {X Y : Type 0} (f : X → Y) (p : X → Bool) (xs : List X) → None ≡ option_map f (find p xs)
    → list_any p xs ≡ false
none_mapped {X = X} {Y = Y} f p xs e = any_find p xs ∙ by (find p xs) e
  where
    by : (o : Option X) → None ≡ option_map f o → is_some o ≡ false
    by None e = refl
    by (Some x) e = absurd (cc)

-- what holds of each item and says less
pub each_weaker : {X : Type 0} (P Q : X → Type 0) → ((x : X) → P x → Q x) → (xs : List X) → AllByRecursion P xs
    → AllByRecursion Q xs
each_weaker P Q w [] a = tt
each_weaker P Q w (x ∷ xs) a = (w x a.0, each_weaker P Q w xs a.1)

-- a test that fails at each item
pub none_each : {X : Type 0} (q : X → Bool) (xs : List X) → AllByRecursion (λ x. q x ≡ false) xs → list_any q xs ≡ false
none_each q [] a = refl
none_each q (x ∷ xs) a = rw a.0 (none_each q xs a.1)
