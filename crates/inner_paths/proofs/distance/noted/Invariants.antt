use Rattle.std.proofs.Common.{◌≡◌, ℕ, ◌<◌, false, Some, None, length, get_or, if◌then◌else◌}
use Rattle.std.specs.Option.{option_or}
use Rattle.inner_paths.proofs.distance.noted.Given as goal

abbrev pub invariant-loop-switch : goal.invariant-loop-switch
invariant-loop-switch l = (length l.noted.items ≡ l.switch)
    × ((s : ℕ) → s < l.switch
    → get_or l.noted.items s None ≡ option_or (get_or l.distances s None)
    (if get_or l.layer s false then Some l.cables else None))
