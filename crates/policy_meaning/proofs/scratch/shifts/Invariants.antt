use Rattle.std.proofs.Common.{◌≡◌, ◌++◌, take}
use Rattle.std.specs.Prelude.{flat_map}
use Rattle.policy_meaning.specs.Rules.{shifts_with}
use Rattle.policy_meaning.proofs.scratch.shifts.Given as goal

abbrev pub invariant-loop-a : goal.invariant-loop-a
invariant-loop-a l = l.rules ≡ flat_map (shifts_with l.size) (take l.a-index l.xs)

abbrev pub invariant-loop-b : goal.invariant-loop-b
invariant-loop-b l = l.rules ≡ flat_map (shifts_with l.size) l.xs ++ l.yielded
