-- Worked rows, computed by the checker.
use Rattle.std.specs.Prelude.{◌≡◌, ℕ, List, [], ◌∷◌}
use Rattle.policy_lock.specs.declared.after.After.TheVariants.{Events, Waiting}
use Rattle.policy_lock.specs.declared.view.Entry.{Entry}
use Rattle.policy_lock.specs.After.{IsAfter}
use Rattle.policy_lock.specs.History.{entry, calls_by}
use Rattle.policy_lock.specs.Number.{missing}

-- the first seat posts 5 and 7 to a machine that adds up, and the first seat that was split off it posts 6 in between
abbrev pub three : List (Entry ℕ ℕ)
three = entry [] 5 5 ∷ entry (0 ∷ []) 6 11 ∷ entry [] 7 18 ∷ []

-- the calls of each seat
abbrev pub CallsAreOwn : Type 0
CallsAreOwn = (calls_by [] three ≡ entry [] 5 5 ∷ entry [] 7 18 ∷ [])
    × (calls_by (0 ∷ []) three ≡ entry (0 ∷ []) 6 11 ∷ []) × (calls_by (1 ∷ []) three ≡ [])

-- two events follow the first place, and none the third
abbrev pub EventsFollow : Type 0
EventsFollow = IsAfter three 1 (Events (6 ∷ 7 ∷ [])) × IsAfter three 3 (Waiting 3)

-- of two seats the second is missing beside the first, the first beside the second, and none of both
abbrev pub SeatsAreMissing : Type 0
SeatsAreMissing = (missing (([], 1) ∷ []) ≡ 1) × (missing ((0 ∷ [], 0) ∷ []) ≡ 1)
    × (missing (([], 1) ∷ (0 ∷ [], 0) ∷ []) ≡ 0)
