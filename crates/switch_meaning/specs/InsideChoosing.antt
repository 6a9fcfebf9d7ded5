-- What the choice of an entry keeps inside.
use Rattle.std.specs.Prelude.{ℕ, Option, Some, None}
use Rattle.of10_match.specs.Highest.{pick}

-- of the best of some items and the best of later ones the higher, and of one rank the first
abbrev pub after : {A : Type 0} → (A → ℕ) → Option A → Option A → Option A
after rank before None = before
after rank None (Some e) = Some e
after rank (Some d) (Some e) = Some (pick rank d e)
