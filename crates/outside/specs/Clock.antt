-- What is known of a clock in memory.
use Rattle.std.specs.Prelude.{◌≡◌, ℕ, true, List, [], ◌∷◌}
use Rattle.outside.specs.Outside.{is_listed}

-- the moments that it will answer from here on, of which the last stays, and the greatest one that it answered
pub record ClockOf : Type 0 where
  pub left : List ℕ
  pub greatest : ℕ

-- the first of the moments, or 0
abbrev pub first_moment : List ℕ → ℕ
first_moment [] = 0
first_moment (moment ∷ left) = moment

-- the moments after the first one was answered: the last one stays
abbrev pub later_moments : List ℕ → List ℕ
later_moments [] = []
later_moments (moment ∷ []) = moment ∷ []
later_moments (moment ∷ next ∷ left) = next ∷ left

-- a clock with these moments left may answer this one: one of them, or 0 where there is none
abbrev pub MayAnswer : List ℕ → ℕ → Type 0
MayAnswer [] moment = moment ≡ 0
MayAnswer (next ∷ left) moment = is_listed (next ∷ left) moment ≡ true
