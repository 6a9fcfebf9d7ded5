use Rattle.policy_expr.specs.Policy.{policy_of}
use Rattle.policy_meaning.proofs.LevelsBelow.{operators}
use Rattle.incr_compile.proofs.building.+build_tree.Given as goal

abbrev pub decreases-build_tree : goal.decreases-build_tree
decreases-build_tree g l = operators (policy_of l.expr.now)
