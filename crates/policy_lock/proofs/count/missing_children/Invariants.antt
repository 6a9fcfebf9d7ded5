use Rattle.std.proofs.Common.{◌≡◌, ◌-◌, ◌^◌, min}
use Rattle.policy_lock.specs.Number.{missing_children, numbers}
use Rattle.policy_lock.proofs.count.missing_children.Given as goal

abbrev pub invariant-loop-k : goal.invariant-loop-k
invariant-loop-k g l = l.count ≡ min (missing_children (numbers l.all) l.number l.k) (2 ^ 32 - 1)
