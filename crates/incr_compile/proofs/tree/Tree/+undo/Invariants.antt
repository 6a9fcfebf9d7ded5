use Rattle.incr_compile.specs.Trees.{tree_of}
use Rattle.incr_compile.proofs.TreeSteps.{branches}
use Rattle.incr_compile.proofs.tree.Tree.+undo.Given as goal

abbrev pub decreases-undo : goal.decreases-undo
decreases-undo l = branches (tree_of l.self.now)
