-- What a table keeps inside.
use Rattle.std.specs.Prelude.{◌≡◌, ℕ, ◌<◌, ◌≤◌, false, map}
use Rattle.std.specs.List.{AllByRecursion}
use Rattle.match_index.specs.InsideGroups.{SameItems}
use Rattle.member_table.specs.InsideOrders.{OrderOf}
use Rattle.member_table.specs.InsideRanking.{RanksOf, ranked_of}
use Rattle.member_table.specs.Sound.{IsSound}
use Rattle.member_table.specs.Tables.{TableOf}
use Rattle.member_table.specs.Timeouts.{has_passed}
use Rattle.member_table.specs.declared.entry.Entry.{Entry}

-- before this moment neither timeout of the entry has passed
abbrev pub IsQuietUntil : ℕ → Entry → Type 0
IsQuietUntil soonest e =
    (now : ℕ) → now < soonest → (has_passed e.added e.hard now ≡ false) × (has_passed e.last e.idle now ≡ false)

-- a table whose ranking has its entries' matches, each as often, whose parts have the room that it names, and of whose
-- entries no timeout passes before the moment that it names
pub record IsKept (table : TableOf) (room soonest : ℕ) (order : OrderOf) (ranks : RanksOf) : Type 0 where
  pub sound : IsSound table
  pub ranked : SameItems ranks.items (map ranked_of order.entries)
  pub order_room : room ≤ order.room
  pub ranks_room : room ≤ ranks.room
  pub quiet : AllByRecursion (IsQuietUntil soonest) order.entries
