use Rattle.std.proofs.Common.{◌≡◌, map, take}
use Rattle.incr_compile.specs.Compiling.{by_leaf}
use Rattle.incr_compile.proofs.member.leaf_origins.Given as goal

abbrev pub invariant-loop-leaf : goal.invariant-loop-leaf
invariant-loop-leaf l = l.origins.items ≡ map by_leaf (take l.leaf-index l.leaf-items)
