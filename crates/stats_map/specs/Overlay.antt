-- Counts, and what is changed of them.
use Rattle.std.specs.Prelude.{◌≡◌, ℕ, Some}
use Rattle.switch_meaning.specs.Counts.{Cookie}
use Rattle.stats_map.specs.Counting.{Place, place_cmp}
use Rattle.stats_map.specs.Slots.{HasKey, slot_or, value_at}
use Rattle.stats_map.specs.Pending.{HaveSlots, IsOrdered, IsSummed, LeavesHaveSlots, laid}
use Rattle.stats_map.specs.Told.{HeldOf}
use Rattle.stats_map.specs.declared.overlay.Overlay.{Overlay}

-- the counts with the changes
abbrev pub now_of : Overlay → HeldOf
now_of o = laid o.live.entries o.sums.entries o.base.now

-- the place has a slot
abbrev pub IsDrawn : Place → Overlay → Type 0
IsDrawn place o = HasKey place_cmp place o.live.entries

-- each leaf of a place's cookie has a slot
abbrev pub NamesAreDrawn : Place → Overlay → Type 0
NamesAreDrawn place o =
    (c : Cookie) → slot_or (value_at place_cmp place o.live.entries) (value_at place_cmp place o.base.now.live) ≡ Some c
    → HaveSlots c.ancestry o.sums.entries

-- each cookie of the switch has a slot
abbrev pub SwitchIsDrawn : ℕ → Overlay → Type 0
SwitchIsDrawn switch o = (place : Place) → place.0 ≡ switch → HasKey place_cmp place (now_of o).live → IsDrawn place o

-- the sums with the changes are those of the cookies with them, and leaves of cookies that have slots have slots
pub record IsLaid (o : Overlay) : Type 0 where
  pub ordered : IsOrdered o.base.now
  pub summed : IsSummed (now_of o)
  pub slots : LeavesHaveSlots o.live.entries o.sums.entries
