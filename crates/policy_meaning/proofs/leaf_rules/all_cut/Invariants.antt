use Rattle.std.proofs.Common.{◌≡◌, take}
use Rattle.std.specs.Prelude.{flat_map}
use Rattle.policy_meaning.specs.LeafRules.{cut}
use Rattle.policy_meaning.proofs.leaf_rules.all_cut.Given as goal

abbrev pub invariant-loop-m : goal.invariant-loop-m
invariant-loop-m l = l.cells ≡ flat_map (cut l.visible) (take l.m-index l.m-items)
