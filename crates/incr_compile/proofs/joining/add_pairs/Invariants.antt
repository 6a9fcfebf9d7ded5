use Rattle.std.proofs.Common.{◌≡◌, ◌++◌, ◌+◌, ◌≤◌, take}
use Rattle.std.specs.Prelude.{filter_map}
use Rattle.incr_compile.specs.Ways.{held_way}
use Rattle.incr_compile.proofs.joining.add_pairs.Given as goal

abbrev pub invariant-loop-b : goal.invariant-loop-b
invariant-loop-b g l = record {
  made : l.fresh.items ≡ l.fn.fresh.items ++ filter_map ((held_way l.op l.size).pair l.a) (take l.b-index l.rights);
  steps : l.steps ≤ l.fn.steps + l.b-index;
}
