use Rattle.std.proofs.Common.{◌≡◌, take}
use Rattle.std.specs.Prelude.{flat_map}
use Rattle.policy_meaning.specs.Rules.{sums_with}
use Rattle.policy_meaning.proofs.scratch.sums.Given as goal

abbrev pub invariant-loop-a : goal.invariant-loop-a
invariant-loop-a l = l.rules ≡ flat_map (sums_with l.bs) (take l.a-index l.xs)
