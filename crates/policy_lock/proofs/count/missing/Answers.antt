use Rattle.std.proofs.Common.{rules, arith, ◌≡◌, ◌+◌, ℕ}
use Rattle.std.proofs.lemmas.List.{at_drop_all}
use Rattle.policy_lock.specs.Number.{missing_below, numbers}
use Rattle.policy_lock.proofs.count.missing.Goals as goal

pub returns : goal.returns
returns g c = let none : missing_below (numbers c.args.seats.now)
    (numbers (Rattle.std.proofs.Common.drop c.loop-seat.seat-index c.args.seats.now)) ≡ 0 =
    at_drop_all (λ l. missing_below (numbers c.args.seats.now) (numbers l)) c.args.seats.now c.loop-seat.seat-index
    (search rules) in
    let sum = c.loop-seat.invariant.1 in let small = c.loop-seat.invariant.0 in omega arith
