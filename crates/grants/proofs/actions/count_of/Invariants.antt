use Rattle.std.proofs.Common.{◌≡◌, take, sum_by}
use Rattle.grants.specs.Rows.{counted, weight}
use Rattle.grants.proofs.actions.count_of.Given as goal

abbrev pub invariant-loop-action : goal.invariant-loop-action
invariant-loop-action l = l.count ≡ counted (sum_by (weight l.g) (take l.action-index l.actions))
