use Rattle.std.proofs.Common.{◌≡◌, ◌∷◌, ◌++◌, All, length, true, false}
use Rattle.policy_lock.proofs.Closes.{passes}
use Rattle.policy_lock.proofs.lock.PolicyLock.close.Given as goal

abbrev pub invariant-loop-seat : goal.invariant-loop-seat
invariant-loop-seat g l = (l.keeper.table_id ≡ l.fn.self.id) × (l.keeper.me.0.seated ≡ true)
    × (l.keeper.me.0.holds ≡ false)
    × (passes l.fn.seats ≡ (l.keeper.me.0.pass ∷ l.keeper.me.0.gathered) ++ passes l.queue.items)
    × All (λ seat. seat.lock ≡ l.fn.self.id) l.queue.items

abbrev pub decreases-loop-seat : goal.decreases-loop-seat
decreases-loop-seat g l = length l.queue.items
