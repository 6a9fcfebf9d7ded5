use Rattle.std.proofs.Common.{◌≡◌, ◌∷◌, drop}
use Rattle.policy_lock.specs.Number.{has_number, numbers}
use Rattle.policy_lock.proofs.count.has_child.Given as goal

abbrev pub invariant-loop-seat : goal.invariant-loop-seat
invariant-loop-seat g l = has_number (l.k ∷ l.number) (numbers (drop l.seat-index l.seats))
    ≡ has_number (l.k ∷ l.number) (numbers l.seats)
