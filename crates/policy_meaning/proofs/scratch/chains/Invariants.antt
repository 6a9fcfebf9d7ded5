use Rattle.std.proofs.Common.{◌≡◌, take}
use Rattle.std.specs.Prelude.{flat_map}
use Rattle.policy_meaning.specs.Rules.{chains_with}
use Rattle.policy_meaning.proofs.scratch.chains.Given as goal

abbrev pub invariant-loop-a : goal.invariant-loop-a
invariant-loop-a l = l.rules ≡ flat_map (chains_with l.size l.bs) (take l.a-index l.xs)
