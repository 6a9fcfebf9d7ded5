use Rattle.std.proofs.Common.{◌≡◌, ◌++◌, ◌+◌, ◌≤◌, take, ◌∷◌, []}
use Rattle.list_change.specs.Pairing.{pairs}
use Rattle.incr_compile.specs.Ways.{held_way}
use Rattle.incr_compile.proofs.joining.add_by_right.Given as goal

abbrev pub invariant-loop-a : goal.invariant-loop-a
invariant-loop-a g l = record {
  made : l.fresh.items ≡ l.fn.fresh.items ++ pairs (held_way l.op l.size).pair (take l.a-index l.lefts) (l.b ∷ []);
  steps : l.steps ≤ l.fn.steps + l.a-index;
}
