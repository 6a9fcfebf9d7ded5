-- Of the items that pass a test the one of the highest rank, and of one rank the first.
use Rattle.std.specs.Prelude.{ℕ, Bool, nat_lt, List, [], ◌∷◌, Option, Some, None, if◌then◌else◌}

-- of two items the one of the higher rank, and of one rank the first
abbrev pub pick : {A : Type 0} → (A → ℕ) → A → A → A
pick rank d e = if nat_lt (rank d) (rank e) then e else d

-- the item, or a later one of a higher rank
abbrev pub higher : {A : Type 0} → (A → ℕ) → A → Option A → Option A
higher rank e None = Some e
higher rank e (Some d) = Some (pick rank e d)

-- of the items that pass the test the one of the highest rank
abbrev pub highest : {A : Type 0} → (A → Bool) → (A → ℕ) → List A → Option A
highest passes rank [] = None
highest passes rank (e ∷ es) = if passes e then higher rank e (highest passes rank es) else highest passes rank es
