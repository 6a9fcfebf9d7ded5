use Rattle.std.proofs.Common.{◌≡◌, ◌++◌}
use Rattle.stats_map.proofs.copies.copied_cookies.Given as goal

abbrev pub invariant-loop-place : goal.invariant-loop-place
invariant-loop-place l = l.copied.entries ++ l.place-iterator ≡ l.live.entries
