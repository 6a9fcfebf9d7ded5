-- Which level a rank has among pairs that are joined, filtered or given new levels.
use Rattle.std.proofs.Common.{◌≡◌, ◌≢◌, ◌∙◌, ℕ, ◌+◌, true, false, List, [], ◌∷◌, ◌++◌, length, map, Option, Some, None}
use Rattle.std.proofs.Common.{is_some, if◌then◌else◌, nat_lt, nat_eq, refl, ap, arith, length-append}
use Rattle.std.specs.Option.{option_map, option_or}
use Rattle.std.proofs.lemmas.List.Elements.{filter-append}
use Rattle.std.proofs.lemmas.Bool.{le-ltb}
use Rattle.std.proofs.lemmas.List.{append-nil}
use Rattle.std.proofs.lemmas.Bool.Decides.{nat_tests}
use Rattle.level_map.specs.declared.ranked.Ranked.{Ranked}
use Rattle.level_map.specs.Levels.{level_among, lower, higher}
use Rattle.level_map.specs.Placing.{with_rank, even_level, spread}

-- of joined pairs the first ones count
among_append : (xs ys : List Ranked) (q : ℕ)
    → level_among (xs ++ ys) q ≡ option_or (level_among xs q) (level_among ys q)
among_append [] ys q = refl
among_append (x ∷ xs) ys q = elim (nat_eq x.rank q) as
    (λ b. (if b then Some x.level else level_among (xs ++ ys) q)
    ≡ option_or (if b then Some x.level else level_among xs q) (level_among ys q)) [
      | true ↦ refl
      | false ↦ among_append xs ys q
    ]

-- lower ranks keep their levels among the lower pairs, and no other rank is there
among_lower : (k : ℕ) (rs : List Ranked) (q : ℕ)
    → level_among (lower k rs) q ≡ (if nat_lt q k then level_among rs q else None)
among_lower k [] q = grind arith
among_lower k (r ∷ rs) q = grind (arith, nat_tests, among_lower k rs q)

-- higher ranks keep their levels among the higher pairs, and no other rank is there
among_higher : (k : ℕ) (rs : List Ranked) (q : ℕ)
    → level_among (higher k rs) q ≡ (if nat_lt k q then level_among rs q else None)
among_higher k [] q = grind arith
among_higher k (r ∷ rs) q = grind (arith, nat_tests, among_higher k rs q)

-- a rank that was added has its level, and the others have theirs
pub among_with_rank : (k l : ℕ) (rs : List Ranked) (q : ℕ)
    → level_among (with_rank k l rs) q ≡ (if nat_eq k q then Some l else level_among rs q)
among_with_rank k l rs q =
    rw (among_append, among_lower, among_higher) (grind (arith, nat_tests))

-- a rank that was taken out has none, and the others have theirs
pub among_without : (k : ℕ) (rs : List Ranked) (q : ℕ)
    → level_among (lower k rs ++ higher k rs) q ≡ (if nat_eq k q then None else level_among rs q)
among_without k rs q = rw (among_append, among_lower, among_higher) (grind (arith, nat_tests))

-- pairs whose levels are made from their ranks
pub among_map : (g : ℕ → ℕ) (rs : List Ranked) (q : ℕ)
    → level_among (map (λ r. record { rank = r.rank; level = g r.rank }) rs) q
    ≡ option_map (λ _. g q) (level_among rs q)
among_map g [] q = refl
among_map g (r ∷ rs) q = grind (arith, nat_tests, among_map g rs q)

-- the lower pairs of lower ones are those
lower_lower : (k : ℕ) (rs : List Ranked) → lower k (lower k rs) ≡ lower k rs
lower_lower k [] = refl
lower_lower k (r ∷ rs) = grind (arith, nat_tests, lower_lower k rs)

-- no higher pair is lower
lower_higher : (k : ℕ) (rs : List Ranked) → lower k (higher k rs) ≡ []
lower_higher k [] = refl
lower_higher k (r ∷ rs) = grind (arith, nat_tests, lower_higher k rs)

-- the lower pairs stay the same
lower_with_rank : (k l : ℕ) (rs : List Ranked) → lower k (with_rank k l rs) ≡ lower k rs
lower_with_rank k l rs =
    let not_below : nat_lt k k ≡ false = le-ltb k k (omega arith) in
    let none : lower k (record { rank = k; level = l } ∷ higher k rs) ≡ [] = rw not_below (lower_higher k rs) in
    filter-append (λ r. nat_lt r.rank k) (lower k rs) (record { rank = k; level = l } ∷ higher k rs)
    ∙ rw (none, lower_lower k rs) (append-nil (lower k rs))

-- a rank that is new makes one pair more
length_with_rank : (k l : ℕ) (rs : List Ranked) → level_among rs k ≡ None → length (with_rank k l rs) ≡ length rs + 1
length_with_rank k l rs new =
    omega (arith, length-append (lower k rs) (record { rank = k; level = l } ∷ higher k rs), length_halves k rs new)
  where
    length_halves : (k : ℕ) (rs : List Ranked) → level_among rs k ≡ None
        → length (lower k rs) + length (higher k rs) ≡ length rs
    length_halves k [] new = omega arith
    length_halves k (r ∷ rs) new = grind (arith, nat_tests, new, length_halves k rs)

-- among pairs that are spread with a new rank, each rank has the level of its place
among_spread :
    (size k : ℕ) (rs : List Ranked) (q : ℕ)
    → level_among (spread size (with_rank k 0 rs)) q
    ≡ option_map (λ _. even_level size (length (with_rank k 0 rs)) (length (lower q (with_rank k 0 rs)) + 1))
    (level_among (with_rank k 0 rs) q)
among_spread size k rs q =
    among_map (λ r. even_level size (length (with_rank k 0 rs)) (length (lower r (with_rank k 0 rs)) + 1))
    (with_rank k 0 rs) q

-- the new rank has the level of its place
pub among_spread_new :
    (size k : ℕ) (rs : List Ranked) → level_among rs k ≡ None
    → level_among (spread size (with_rank k 0 rs)) k ≡ Some (even_level size (length rs + 1) (length (lower k rs) + 1))
among_spread_new size k rs new =
    among_spread size k rs k ∙ rw (among_with_rank k 0 rs k, length_with_rank k 0 rs new, lower_with_rank k 0 rs)
    (grind (arith, nat_tests))

-- the other ranks are those that were there
pub among_spread_others :
    (size k : ℕ) (rs : List Ranked) (q : ℕ) → q ≢ k
    → is_some (level_among (spread size (with_rank k 0 rs)) q) ≡ is_some (level_among rs q)
among_spread_others size k rs q other =
    ap is_some (among_spread size k rs q) ∙ is_some_map _ (level_among (with_rank k 0 rs) q)
    ∙ ap is_some (among_with_rank k 0 rs q ∙ grind (arith, nat_tests))
  where
    is_some_map : (f : ℕ → ℕ) (o : Option ℕ) → is_some (option_map f o) ≡ is_some o
    is_some_map f None = refl
    is_some_map f (Some x) = refl
