use Rattle.std.proofs.Common.{◌≡◌, reverse, length}
use Rattle.stats_map.specs.Told.{told}
use Rattle.event_acts.specs.CookieCounts.{with_counts}
use Rattle.event_acts.proofs.hearing.take_back.Given as goal

-- what is left to be taken back gives what all give
abbrev pub invariant-loop-cookie : goal.invariant-loop-cookie
invariant-loop-cookie l =
    with_counts l.switch (reverse l.left) (told l.counts)
    ≡ with_counts l.switch (reverse l.fn.numbers) (told l.fn.counts)

abbrev pub decreases-loop-cookie : goal.decreases-loop-cookie
decreases-loop-cookie l = length l.left
