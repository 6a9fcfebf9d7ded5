use Rattle.std.proofs.Common.{◌≡◌, ◌++◌, take}
use Rattle.policy_meaning.specs.LeafRules.{cut}
use Rattle.policy_meaning.proofs.leaf_rules.add_cut.Given as goal

abbrev pub invariant-loop-port : goal.invariant-loop-port
invariant-loop-port l = l.cells ≡ l.fn.cells ++ cut (take l.port-index l.port-items) l.m
