use Rattle.std.proofs.Common.{◌≡◌, ℕ, ◌<◌, None, length, get_or}
use Rattle.inner_paths.specs.Hops.{hop_between}
use Rattle.inner_paths.proofs.table.hops.Given as goal

abbrev pub invariant-loop-from : goal.invariant-loop-from
invariant-loop-from l = (length l.hops.items ≡ l.from)
    × ((s : ℕ) → s < l.from → get_or l.hops.items s None ≡ hop_between l.topology s l.to)
