-- What is told of the outside: bytes, where they are known, and counts of faults.
use Rattle.std.specs.Prelude.{ℕ, zero, suc, Bool, ◌==◌, ◌+◌, ◌<◌, ◌≤◌, ◌≡◌, ◌⊎◌, List, [], ◌∷◌, ◌++◌, Option, Some, None}
use Rattle.std.specs.Prelude.{drop, false, min, take, true}
use Rattle.std.specs.List.{list_any}

-- the greatest count
abbrev pub MOST : ℕ
MOST = 18446744073709551615

-- the next count, which stands still at the greatest
abbrev pub next_count : ℕ → ℕ
next_count n = min (n + 1) MOST

-- a count rose, or stands at its greatest value
abbrev pub Rose : ℕ → ℕ → Type 0
Rose before after = (before < after) ⊎ (after ≡ MOST)

-- a count rose at each of so many calls: by as many at least, but that it stands still at its greatest value
abbrev pub RoseBy : ℕ → ℕ → ℕ → Type 0
RoseBy zero before after = before ≤ after
RoseBy (suc n) before after = Rose before after × (min (before + suc n) MOST ≤ after)

-- the number of a call is one of those that are to fail
abbrev pub is_listed : List ℕ → ℕ → Bool
is_listed fails call = list_any (λ k. k == call) fails

-- no call is to fail
abbrev pub lists_none : List ℕ → Bool
lists_none [] = true
lists_none (call ∷ fails) = false

-- a read of n bytes took the next ones of those that are left, and took none only at their end
abbrev pub TakesNext : Option (List ℕ) → Option (List ℕ) → ℕ → List ℕ → Type 0
TakesNext None after n into = after ≡ None
TakesNext (Some left) after n into = (take n into ≡ take n left) × (after ≡ Some (drop n left)) × (n ≡ 0 → left ≡ [])

-- a write of n bytes appended the first n of a piece to what is held
abbrev pub AppendsFirst : Option (List ℕ) → Option (List ℕ) → ℕ → List ℕ → Type 0
AppendsFirst None after n piece = after ≡ None
AppendsFirst (Some held) after n piece = after ≡ Some (held ++ take n piece)

-- bytes that are known now, if they were as it began
abbrev pub if_told : Option (List ℕ) → Option (List ℕ) → Option (List ℕ)
if_told None now = None
if_told (Some bytes) now = now

-- what is known of a source in memory: the bytes that are left, the calls that are to fail, how many were made and
-- failed
pub record SourceOf : Type 0 where
  pub left : List ℕ
  pub fails : List ℕ
  pub made : ℕ
  pub faults : ℕ

-- what is known of a sink in memory: the bytes that it holds, the calls that are to fail, how many were made, failed,
-- and found no memory
pub record SinkOf : Type 0 where
  pub held : List ℕ
  pub fails : List ℕ
  pub made : ℕ
  pub faults : ℕ
  pub wants : ℕ
