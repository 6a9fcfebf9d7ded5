use Rattle.std.proofs.Common.{◌+◌, ◌≤◌, take}
use Rattle.std.specs.Prelude.{IsPermutation}
use Rattle.list_change.specs.Pairing.{by_left}
use Rattle.made_rules.specs.Rules.{rules_in}
use Rattle.incr_compile.specs.Candidates.{left_cost}
use Rattle.incr_compile.specs.Ways.{held_way}
use Rattle.incr_compile.proofs.making.made_by_left.Given as goal

abbrev pub invariant-loop-a : goal.invariant-loop-a
invariant-loop-a g l = record {
  made : IsPermutation l.fresh.items (by_left (held_way l.op l.size) (take l.a-index l.come) (rules_in l.right));
  steps : l.steps ≤ l.fn.steps + left_cost l.op (rules_in l.right) (take l.a-index l.come);
}
