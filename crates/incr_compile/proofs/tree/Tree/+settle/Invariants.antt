use Rattle.incr_compile.specs.Trees.{tree_of}
use Rattle.incr_compile.proofs.TreeSteps.{branches}
use Rattle.incr_compile.proofs.tree.Tree.+settle.Given as goal

abbrev pub decreases-settle : goal.decreases-settle
decreases-settle l = branches (tree_of l.self.now)
