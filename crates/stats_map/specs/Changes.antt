-- Changes of counts.
use Rattle.stats_map.specs.Pending.{IsSummed, laid}
use Rattle.stats_map.specs.Told.{HeldOf}
use Rattle.stats_map.specs.declared.changes.Changes.{Changes}

-- what is held after changes
abbrev pub made : Changes → HeldOf → HeldOf
made changes h = laid changes.live.entries changes.sums.entries h

-- the sums after the changes are those of the cookies after them
abbrev pub CanMake : Changes → HeldOf → Type 0
CanMake changes h = IsSummed (made changes h)
