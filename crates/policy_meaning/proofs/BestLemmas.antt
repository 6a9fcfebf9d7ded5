-- Laws of the best rule of a list.
use Rattle.std.proofs.Common.{◌≡◌, ℕ, ◌<◌, ◌≤◌, true, List, [], ◌∷◌, ◌++◌, Option, Some, None, refl, arith}
use Rattle.std.specs.Prelude.{flat_map, filter_map}
use Rattle.std.specs.List.{AllByRecursion, cons_option}
use Rattle.of10_match.specs.Fields.{HeaderOf}
use Rattle.of10_match.specs.Matching.{holds}
use Rattle.policy_meaning.specs.Best.{EachAt, Below, IsBest, first, later}
use Rattle.policy_meaning.specs.declared.rule.Rule.{Rule}
use Rattle.policy_meaning.proofs.Lists.{all-map, all-each, all-zip, all-append, all-flat_map, all-filter_map}

-- no rule at all
abbrev pub Never : Rule → Type 0
Never r = ⊥

-- any rule
abbrev pub Any : Rule → Type 0
Any r = Unit {0}

pub anything : (xs : List Rule) → AllByRecursion Any xs
anything xs = all-each Any xs (λ x. tt)

-- what is asked of a rule at a header
abbrev pub At : HeaderOf → (Rule → Type 0) → Rule → Type 0
At h P x = holds x.m h ≡ true → P x

module _ (h : HeaderOf) where
  pub at-map : (P Q : Rule → Type 0) (xs : List Rule) → ((x : Rule) → P x → Q x) → EachAt h P xs → EachAt h Q xs
  at-map P Q xs f p = all-map (At h P) (At h Q) xs (λ x q t. f x (q t)) p

  pub at-below : (n m : ℕ) (xs : List Rule) → n ≤ m → EachAt h (Below n) xs → EachAt h (Below m) xs
  at-below n m xs le p = at-map (Below n) (Below m) xs (λ x q. omega arith) p

  pub at-never : (P : Rule → Type 0) (xs : List Rule) → EachAt h Never xs → EachAt h P xs
  at-never P xs p = at-map Never P xs (λ x n. absurd n) p

  pub at-any : (xs : List Rule) → EachAt h Any xs
  at-any xs = all-each (At h Any) xs (λ x _. tt)

  pub at-append : (P : Rule → Type 0) (xs ys : List Rule) → EachAt h P xs → EachAt h P ys → EachAt h P (xs ++ ys)
  at-append P xs ys p q = all-append (At h P) xs ys p q

  -- lists made of each rule
  pub at-flat_map : (P Q : Rule → Type 0) (g : Rule → List Rule) (xs : List Rule)
      → ((x : Rule) → At h P x → EachAt h Q (g x)) → EachAt h P xs → EachAt h Q (flat_map g xs)
  at-flat_map P Q g xs up p = all-flat_map (At h P) (At h Q) g xs up p

  pub best_holds : {rs : List Rule} {r : Rule} → IsBest h rs r → holds r.m h ≡ true
  best_holds (first e b) = e
  best_holds (later lt b) = best_holds b

  -- the others are no higher
  pub best_most : {rs : List Rule} {r : Rule} → IsBest h rs r → (n : ℕ) → r.level < n → EachAt h (Below n) rs
  best_most (first {r = r} {rs = rs} e b) n lt = (λ _. lt, at-below r.level n rs (omega arith) b)
  best_most (later {r = r} {x = x} low b) n lt =
      (λ e. let p : x.level < r.level = low e in omega arith, best_most b n lt)

  -- what holds of each rule holds of the best
  pub best_each : (P : Rule → Type 0) {rs : List Rule} {r : Rule} → IsBest h rs r → AllByRecursion P rs → P r
  best_each P (first e b) a = a.0
  best_each P (later lt b) a = best_each P b a.1

  pub best-append_left : {xs : List Rule} {r : Rule} → IsBest h xs r → (ys : List Rule) → EachAt h (Below r.level) ys
      → IsBest h (xs ++ ys) r
  best-append_left (first {r = r} {rs = rs} e b) ys c = first e (at-append (Below r.level) rs ys b c)
  best-append_left (later lt b) ys c = later lt (best-append_left b ys c)

  pub best-append_right : (xs : List Rule) {ys : List Rule} {r : Rule} → EachAt h (Below r.level) xs → IsBest h ys r
      → IsBest h (xs ++ ys) r
  best-append_right [] c b = b
  best-append_right (x ∷ xs) c b = later c.0 (best-append_right xs c.1 b)

  -- the best of what the best rule makes is the best of what all make, where each lower one makes only what is lower
  pub best-flat_map : (g : Rule → List Rule) {xs : List Rule} {a : Rule} (c : Rule) → IsBest h (g a) c
      → ((x : Rule) → (holds x.m h ≡ true → x.level < a.level) → EachAt h (Below c.level) (g x)) → IsBest h xs a
      → IsBest h (flat_map g xs) c
  best-flat_map g c at low (first {r = r} {rs = rs} e b) =
      best-append_left at (flat_map g rs) (at-flat_map (Below r.level) (Below c.level) g rs low b)
  best-flat_map g c at low (later {x = x} lt b) =
      best-append_right (g x) (low x lt) (best-flat_map g c at low b)

  pub best-cons_option : (o : Option Rule) {ys : List Rule} {c : Rule}
      → ((y : Rule) → o ≡ Some y → holds y.m h ≡ true → y.level < c.level) → IsBest h ys c
      → IsBest h (cons_option o ys) c
  best-cons_option None low b = b
  best-cons_option (Some y) low b = later (λ t. low y refl t) b

  -- rules made of some rules, each of which is G, where k is the header that those see
  module _ (k : HeaderOf) (f : Rule → Option Rule) (G : Rule → Type 0) where
    pub at-filter_map : (P Q : Rule → Type 0) (xs : List Rule)
        → ((x y : Rule) → G x → f x ≡ Some y → holds y.m h ≡ true → At k P x → Q y) → AllByRecursion G xs
        → EachAt k P xs → EachAt h Q (filter_map f xs)
    at-filter_map P Q xs up g p =
        all-filter_map (λ x. G x × At k P x) (At h Q) f xs (λ x y e q t. up x y q.0 e t q.1) (all-zip G (At k P) xs g p)

    pub best-filter_map : {xs : List Rule} {b : Rule} (c : Rule) → f b ≡ Some c → holds c.m h ≡ true →
        ((x y : Rule) → G x → f x ≡ Some y → holds y.m h ≡ true → (holds x.m k ≡ true → x.level < b.level)
        → y.level < c.level) → AllByRecursion G xs → IsBest k xs b → IsBest h (filter_map f xs) c
    best-filter_map c e t low g (first {r = r} {rs = rs} u at) =
        rw e (first t (at-filter_map (Below r.level) (Below c.level) rs low g.1 at))
    best-filter_map c e t low g (later {x = x} lt b) =
        best-cons_option (f x) (λ y u v. low x y g.0 u v lt) (best-filter_map c e t low g.1 b)
