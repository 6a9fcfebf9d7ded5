use Rattle.std.proofs.Common.{◌≡◌, ◌++◌, take}
use Rattle.policy_meaning.specs.Rules.{sums_with}
use Rattle.policy_meaning.proofs.composing.add_sums.Given as goal

abbrev pub invariant-loop-b : goal.invariant-loop-b
invariant-loop-b l = l.rules ≡ l.fn.rules ++ sums_with (take l.b-index l.b-items) l.a
