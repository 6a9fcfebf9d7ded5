use Rattle.std.proofs.Common.{◌≡◌}
use Rattle.policy_lock.proofs.Holds.{IsBack}
use Rattle.policy_lock.proofs.lock.PolicyLock.take_for.Given as goal

abbrev pub invariant-loop-turns : goal.invariant-loop-turns
invariant-loop-turns g l = (l.token.table_id ≡ l.initial.token.table_id) × (l.token.id ≡ l.initial.token.id)
    × IsBack g.M.Machine l.initial.token.me.0 l.token.me
