use Rattle.std.proofs.Common.{◌≡◌, reverse, take, drop}
use Rattle.stats_map.specs.Told.{told}
use Rattle.event_acts.specs.CookieCounts.{with_counts}
use Rattle.event_acts.proofs.hearing.take_over.Given as goal

-- what is left to be taken over gives what all give, and what was exchanged takes it back
abbrev pub invariant-loop-count : goal.invariant-loop-count
invariant-loop-count l = record {
  forth : with_counts l.switch (drop l.count-index l.count-items) (told l.counts)
      ≡ with_counts l.switch l.fn.numbers (told l.fn.counts);
  back : with_counts l.switch (reverse (take l.count-index l.count-items)) (told l.counts) ≡ told l.fn.counts;
}
