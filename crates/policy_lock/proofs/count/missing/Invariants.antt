use Rattle.std.proofs.Common.{◌≡◌, ◌<◌, ◌+◌, ◌-◌, ◌^◌, min, drop}
use Rattle.policy_lock.specs.Number.{missing, missing_below, numbers}
use Rattle.policy_lock.proofs.count.missing.Given as goal

abbrev pub invariant-loop-seat : goal.invariant-loop-seat
invariant-loop-seat g l = (l.count < 2 ^ 32)
    × (min (l.count + missing_below (numbers l.seats) (numbers (drop l.seat-index l.seats))) (2 ^ 32 - 1)
    ≡ min (missing (numbers l.seats)) (2 ^ 32 - 1))
