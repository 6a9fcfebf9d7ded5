use Rattle.std.proofs.Common.{subst}
use Rattle.incr_compile.specs.Trees.{IsTree, tree_of}
use Rattle.incr_compile.specs.declared.tree.Tree.{Tree}
use Rattle.composed_tables.proofs.rules.with_room.Goals as goal

pub returns-clause-sound : goal.returns-clause-sound
returns-clause-sound c = subst (λ (z : Tree). IsTree (tree_of z)) c.tree.view_is c.tree.invariant.0
