use Rattle.std.proofs.Common.{◌≡◌, ◌++◌, take}
use Rattle.std.specs.Prelude.{map}
use Rattle.explain_path.specs.Traces.{unused}
use Rattle.explain_path.proofs.asking.add_unused.Given as goal

abbrev pub invariant-loop-leaf : goal.invariant-loop-leaf
invariant-loop-leaf l = l.leaves ≡ l.fn.leaves ++ map unused (take l.leaf-index l.more)
