use Rattle.std.proofs.Common.{All, length}
use Rattle.policy_lock.specs.Seat.{IsSeatOf}
use Rattle.bench_parts.proofs.lock.under_lock.jobs.Given as goal

abbrev pub invariant-loop-seat : goal.invariant-loop-seat
invariant-loop-seat l = All (IsSeatOf l.lock) l.seats.items

abbrev pub decreases-loop-seat : goal.decreases-loop-seat
decreases-loop-seat l = length l.seats.items
