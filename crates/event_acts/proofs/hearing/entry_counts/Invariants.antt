use Rattle.std.proofs.Common.{◌≡◌, map, take}
use Rattle.event_acts.specs.CookieCounts.{entry_count}
use Rattle.event_acts.proofs.hearing.entry_counts.Given as goal

abbrev pub invariant-loop-entry : goal.invariant-loop-entry
invariant-loop-entry l = l.counts ≡ map entry_count (take l.entry-index l.entry-items)
