-- What is read of a script, a chunk at a time.
use Rattle.std.specs.Prelude.{◌≡◌, ◌+◌, ◌<◌, ◌≤◌, ◌==◌, ◌++◌, ℕ, List, [], Option, Some, None, length, take, drop, ⊤}
use Rattle.std.specs.List.{position_or_len}
use Rattle.covisor_proxy.specs.declared.lines.Taken.{Taken}
use Rattle.covisor_proxy.specs.declared.lines.Taken.TheVariants.{Whole, Part}

-- these bytes were read, where it is told what was there
abbrev pub Gave : Option (List ℕ) → Option (List ℕ) → List ℕ → Type 0
Gave None after bytes = after ≡ None
Gave (Some left) None bytes = ⊥
Gave (Some left) (Some rest) bytes = left ≡ bytes ++ rest

-- nothing is left, where it is told what is left
abbrev pub IsAtEnd : Option (List ℕ) → Type 0
IsAtEnd None = ⊤
IsAtEnd (Some left) = left ≡ []

-- a line so far, and what was read of the script behind it
pub record LinesOf : Type 0 where
  pub line : List ℕ
  pub unread : List ℕ

-- how many bytes come before the first line feed (10), or of all
abbrev pub before_feed : List ℕ → ℕ
before_feed bytes = position_or_len (λ byte. byte == 10) bytes

-- the line goes on up to its line feed, or with all that was read
abbrev pub GoesOn : Taken → LinesOf → LinesOf → Type 0
GoesOn Whole old new =
    (before_feed old.unread < length old.unread) × (new.line ≡ old.line ++ take (before_feed old.unread) old.unread)
    × (new.unread ≡ drop (before_feed old.unread + 1) old.unread)
GoesOn Part old new =
    (length old.unread ≤ before_feed old.unread) × (new.line ≡ old.line ++ old.unread) × (new.unread ≡ [])
