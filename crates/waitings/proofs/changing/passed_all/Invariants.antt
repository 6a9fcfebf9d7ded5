use Rattle.std.proofs.Common.{◌≡◌, map, take}
use Rattle.waitings.specs.Waitings.{without_barrier}
use Rattle.waitings.proofs.changing.passed_all.Given as goal

-- those so far, without the barrier
abbrev pub invariant-loop-waiting : goal.invariant-loop-waiting
invariant-loop-waiting l =
    l.passed ≡ map (without_barrier l.switch l.number) (take l.waiting-index l.list)
