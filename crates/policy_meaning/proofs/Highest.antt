-- The item of the highest rank, of items that a function gives and of items with a property.
use Rattle.std.proofs.Common.{◌≡◌, ℕ, Bool, true, false, List, [], ◌∷◌, map, refl, Option, Some, None, IfSome, nat_lt}
use Rattle.std.proofs.Common.{option_map}
use Rattle.std.specs.Prelude.{if◌then◌else◌}
use Rattle.std.specs.List.{AllByRecursion}
use Rattle.of10_match.specs.Highest.{higher, highest}

module _ {A B : Type 0} (f : A → B) (passes : B → Bool) (rank : B → ℕ) where
  abbrev rank_of : A → ℕ
  rank_of x = rank (f x)

  picked : (b : Bool) (x d : A) → Some (if b then f d else f x) ≡ option_map f (Some (if b then d else x))
  picked true x d = refl
  picked false x d = refl

  above : (x : A) (o : Option A) → higher rank (f x) (option_map f o) ≡ option_map f (higher rank_of x o)
  above x None = refl
  above x (Some d) = picked (nat_lt (rank_of x) (rank_of d)) x d

  taken : (b : Bool) (x : A) (o : Option A)
      → (if b then higher rank (f x) (option_map f o) else option_map f o)
      ≡ option_map f (if b then higher rank_of x o else o)
  taken true x o = above x o
  taken false x o = refl

  -- the highest of the items that a function gives is what it gives of the highest
  pub highest-map : (xs : List A) → highest passes rank (map f xs)
      ≡ option_map f (highest (λ (x : A). passes (f x)) rank_of xs)
  highest-map [] = refl
  highest-map (x ∷ xs) = rw (highest-map xs) (taken (passes (f x)) x (highest (λ (x : A). passes (f x)) rank_of xs))

module _ {A : Type 0} (P : A → Type 0) (passes : A → Bool) (rank : A → ℕ) where
  either : (b : Bool) (x d : A) → P x → P d → P (if b then d else x)
  either true x d p q = q
  either false x d p q = p

  kept : (b : Bool) (x : A) (o : Option A) → P x → IfSome o P → IfSome (if b then higher rank x o else o) P
  kept true x None p q = p
  kept true x (Some d) p q = either (nat_lt (rank x) (rank d)) x d p q
  kept false x o p q = q

  -- what holds of each item holds of the highest
  pub highest-each : (xs : List A) → AllByRecursion P xs → IfSome (highest passes rank xs) P
  highest-each [] a = tt
  highest-each (x ∷ xs) a = kept (passes x) x (highest passes rank xs) a.0 (highest-each xs a.1)
