-- What follows a place of a history.
use Rattle.std.specs.Prelude.{◌≡◌, ℕ, ◌+◌, ◌%◌, ◌<◌, ◌≤◌, List, take, drop, length}
use Rattle.policy_lock.specs.declared.after.After.{After}
use Rattle.policy_lock.specs.declared.after.After.TheVariants.{Events, Waiting, Past}
use Rattle.policy_lock.specs.declared.view.Entry.{Entry}
use Rattle.policy_lock.specs.History.{events_of}

module _ {E R : Type 0} where
  -- what is answered of a history at a place: the events that follow, at most 256; that none do; or after how many
  -- entries the stored events begin, a multiple of 16,384, of which 16,384 at most are stored
  abbrev pub IsAfter : List (Entry E R) → ℕ → After E → Type 0
  IsAfter log place (Events list) = (list ≡ take 256 (events_of (drop place log))) × (0 < length list)
      × (length log ≤ place + 16384)
  IsAfter log place (Waiting at) = (at ≡ place) × (length log ≡ place)
  IsAfter log place (Past first) = (place < first) × (first ≤ length log) × (length log ≤ first + 16384)
      × (first % 16384 ≡ 0)
