use Rattle.std.proofs.Common.{◌≡◌, take}
use Rattle.policy_lock.proofs.after.copies.Given as goal

abbrev pub invariant-loop-event : goal.invariant-loop-event
invariant-loop-event g l = l.list ≡ take l.event-index l.piece
