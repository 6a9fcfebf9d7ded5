-- What is written to a sink.
use Rattle.std.specs.Prelude.{◌≡◌, ◌<◌, ◌⊎◌, ◌++◌, ℕ, List, length, take, Option, Some, None}
use Rattle.outside.specs.Outside.{Rose}

-- all of the bytes were appended to what is held, where that is told
abbrev pub Appends : Option (List ℕ) → Option (List ℕ) → List ℕ → Type 0
Appends None after bytes = after ≡ None
Appends (Some held) after bytes = after ≡ Some (held ++ bytes)

-- the first of the bytes were appended, and perhaps all
abbrev pub AppendsSome : Option (List ℕ) → Option (List ℕ) → List ℕ → Type 0
AppendsSome before after bytes = (n : ℕ) × Appends before after (take n bytes)

-- the first of the bytes were appended, and not all
abbrev pub AppendsShort : Option (List ℕ) → Option (List ℕ) → List ℕ → Type 0
AppendsShort before after bytes = (n : ℕ) × (n < length bytes) × Appends before after (take n bytes)

-- all of the bytes were appended, or the first of them up to where a write failed
abbrev pub Writes : (held held' : Option (List ℕ)) → (faults faults' : ℕ) → List ℕ → Type 0
Writes held held' faults faults' bytes =
    Appends held held' bytes ⊎ (Rose faults faults' × AppendsShort held held' bytes)
