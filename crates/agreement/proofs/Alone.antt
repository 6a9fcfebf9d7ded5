-- One item of a list, and the best item of lists of which one alone counts.
use Rattle.std.proofs.Common.{◌≡◌, ◌≢◌, ℕ, zero, suc, ◌+◌, ◌<◌, Bool, true, false, List, [], ◌∷◌, ◌++◌, Some, refl}
use Rattle.std.proofs.Common.{subst, sym, arith, eqb-true, eq-eqb}
use Rattle.std.specs.Prelude.{flat_map, map, slice_get, ◌==◌}
use Rattle.std.specs.List.{AllByRecursion, enumerate_from}
use Rattle.policy_meaning.specs.Leaf.{has_port}
use Rattle.policy_meaning.specs.LeafFact.{EachPair}
use Rattle.policy_meaning.proofs.Booleans.{or_right, some_injective}
use Rattle.policy_meaning.proofs.Lists.{all-append, all-flat_map, all-map, all-mapped, all-zip}
use Rattle.switch_meaning.specs.BestLaw.{IsBest, first, later}

-- the item stands in the list, and each other one is such
pub data Alone {A : Type 0} (Other : A → Type 0) : List A → A → Type 0 where
  here : {x : A} {xs : List A} → AllByRecursion Other xs → Alone Other (x ∷ xs) x
  there : {x y : A} {xs : List A} → Other y → Alone Other xs x → Alone Other (y ∷ xs) x

pub alone-map : {A B : Type 0} (P : A → Type 0) (Q : B → Type 0) (f : A → B) {xs : List A} {x : A}
    → ((y : A) → P y → Q (f y)) → Alone P xs x → Alone Q (map f xs) (f x)
alone-map P Q f up (here {xs = xs} a) = here (all-mapped P Q f xs up a)
alone-map P Q f up (there {y = y} p a) = there (up y p) (alone-map P Q f up a)

-- what holds of each item holds of the others too
pub alone-zip : {A : Type 0} (P Q : A → Type 0) {xs : List A} {x : A} → Alone P xs x → AllByRecursion Q xs
    → Alone (λ y. P y × Q y) xs x
alone-zip P Q (here {xs = xs} a) q = here (all-zip P Q xs a q.1)
alone-zip P Q (there p a) q = there (p, q.0) (alone-zip P Q a q.1)

-- no other item of numbered ones has the number
later_numbers : {A : Type 0} (k n : ℕ) (xs : List A) → k < n
    → AllByRecursion (λ (i : ℕ × A). i.0 ≢ k) (enumerate_from n xs)
later_numbers k n [] lt = tt
later_numbers k n (x ∷ xs) lt = ((λ e. omega arith), later_numbers k (n + 1) xs (omega arith))

pub alone-numbered : {A : Type 0} (k n v : ℕ) (xs : List A) (x : A) → k ≡ n + v → slice_get xs v ≡ Some x
    → Alone (λ (i : ℕ × A). i.0 ≢ k) (enumerate_from n xs) (k, x)
alone-numbered {A = A} k n v [] x e g = cc
alone-numbered {A = A} k n zero (y ∷ ys) x e g =
    let same : n ≡ k = omega arith in
    subst (λ (m : ℕ). Alone (λ (i : ℕ × A). i.0 ≢ k) ((n, y) ∷ enumerate_from (n + 1) ys) (m, x)) same
    (subst (λ (z : A). Alone (λ (i : ℕ × A). i.0 ≢ k) ((n, y) ∷ enumerate_from (n + 1) ys) (n, z)) (some_injective g)
    (here (later_numbers k (n + 1) ys (omega arith))))
alone-numbered {A = A} k n (suc v) (y ∷ ys) x e g =
    there (λ f. omega arith) (alone-numbered k (n + 1) v ys x (omega arith) g)

-- each numbered item stands at its number
pub numbered : {A : Type 0} (all : List A) (n : ℕ) (xs : List A) → ((k : ℕ) → slice_get xs k ≡ slice_get all (n + k))
    → AllByRecursion (λ (i : ℕ × A). slice_get all i.0 ≡ Some i.1) (enumerate_from n xs)
numbered all n [] f = tt
numbered all n (x ∷ xs) f = (
  subst (λ (m : ℕ). slice_get all m ≡ Some x) (omega arith) (sym (f 0)),
  numbered all (n + 1) xs (λ k. subst (λ (m : ℕ). slice_get xs k ≡ slice_get all m) (omega arith) (f (suc k))),
)

pub all-numbered : {A : Type 0} (xs : List A)
    → AllByRecursion (λ (i : ℕ × A). slice_get xs i.0 ≡ Some i.1) (enumerate_from 0 xs)
all-numbered xs = numbered xs 0 xs (λ k. subst (λ (m : ℕ). slice_get xs k ≡ slice_get xs m) (omega arith) refl)

port-next : (p x : ℕ) (xs : List ℕ) (b : Bool) → (x == p) ≡ b → AllByRecursion (λ q. (q == x) ≡ false) xs
    → (b ≡ false → Alone (λ q. q ≢ p) xs p) → Alone (λ q. q ≢ p) (x ∷ xs) p
port-next p x xs true e a rest =
    subst (λ (z : ℕ). Alone (λ q. q ≢ p) (x ∷ xs) z) (eqb-true x p e)
    (here (all-map (λ q. (q == x) ≡ false) (λ q. q ≢ p) xs
    (λ q n f. let t : (q == x) ≡ true = eq-eqb q x (let g : x ≡ p = eqb-true x p e in omega arith) in cc) a))
port-next p x xs false e a rest = there (λ f. let t : (x == p) ≡ true = eq-eqb x p f in cc) (rest refl)

-- a port that is named once
pub alone-port : (xs : List ℕ) (p : ℕ) → EachPair (λ p q. (q == p) ≡ false) xs → has_port xs p ≡ true
    → Alone (λ q. q ≢ p) xs p
alone-port [] p d e = cc
alone-port (x ∷ xs) p d e = port-next p x xs (x == p) refl d.0 (λ f. alone-port xs p d.1 (rw f at e))

-- each port is one of them
pub all-ports : (xs : List ℕ) → AllByRecursion (λ p. has_port xs p ≡ true) xs
all-ports [] = tt
all-ports (x ∷ xs) = (
  rw (eq-eqb x x refl) refl,
  all-map (λ p. has_port xs p ≡ true) (λ p. has_port (x ∷ xs) p ≡ true) xs
      (λ p e. or_right (x == p) (has_port xs p) e) (all-ports xs),
)

module _ {B : Type 0} (passes : B → Bool) (by : B → ℕ) where
  -- no item passes
  abbrev pub Silent : List B → Type 0
  Silent xs = AllByRecursion (λ (y : B). passes y ≡ false) xs

  -- no item that passes is as high
  abbrev pub Lower : B → List B → Type 0
  Lower x ys = AllByRecursion (λ (y : B). passes y ≡ true → by y < by x) ys

  pub best-above : {xs : List B} {x : B} (ys : List B) → IsBest passes by xs x → Lower x ys
      → IsBest passes by (xs ++ ys) x
  best-above ys (first {x = x} {xs = xs} p a) s =
      first p (all-append (λ (y : B). passes y ≡ true → by y < by x) xs ys a s)
  best-above ys (later lt b) s = later lt (best-above ys b s)

  -- where only one item passes
  pub best-alone : {xs : List B} {x : B} → passes x ≡ true → Alone (λ (y : B). passes y ≡ false) xs x
      → IsBest passes by xs x
  best-alone p (here {x = x} {xs = xs} a) =
      first p (all-map (λ (y : B). passes y ≡ false) (λ (y : B). passes y ≡ true → by y < by x) xs (λ y f t. cc) a)
  best-alone p (there f a) = later (λ t. cc) (best-alone p a)

  pub best-before : {xs : List B} {x : B} (ys : List B) → IsBest passes by xs x → Silent ys
      → IsBest passes by (xs ++ ys) x
  best-before ys (first {x = x} {xs = xs} p a) s =
      first p (all-append (λ (y : B). passes y ≡ true → by y < by x) xs ys a
      (all-map (λ (y : B). passes y ≡ false) (λ (y : B). passes y ≡ true → by y < by x) ys (λ y f t. cc) s))
  best-before ys (later lt b) s = later lt (best-before ys b s)

  pub best-after : (xs : List B) {ys : List B} {x : B} → Silent xs → IsBest passes by ys x
      → IsBest passes by (xs ++ ys) x
  best-after [] s b = b
  best-after (x ∷ xs) s b = later (λ t. cc) (best-after xs s.1 b)

  -- the best of what one item makes, where the others make nothing that passes
  pub best-flat_map : {A : Type 0} (Other : A → Type 0) (g : A → List B) {xs : List A} {x : A} {b : B}
      → ((y : A) → Other y → Silent (g y)) → IsBest passes by (g x) b → Alone Other xs x
      → IsBest passes by (flat_map g xs) b
  best-flat_map Other g quiet best (here {xs = xs} a) =
      best-before (flat_map g xs) best (all-flat_map Other (λ (y : B). passes y ≡ false) g xs quiet a)
  best-flat_map Other g quiet best (there {y = y} p a) =
      best-after (g y) (quiet y p) (best-flat_map Other g quiet best a)
