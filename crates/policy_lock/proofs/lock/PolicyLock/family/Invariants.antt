use Rattle.std.proofs.Common.{◌≡◌, []}
use Rattle.policy_lock.specs.Opening.{new_seat, children_of_first}
use Rattle.policy_lock.proofs.lock.PolicyLock.family.Given as goal

abbrev pub invariant-loop : goal.invariant-loop
invariant-loop g l = (l.first ≡ new_seat l.self [] l.counter) × (l.all.items ≡ children_of_first l.self l.counter)
