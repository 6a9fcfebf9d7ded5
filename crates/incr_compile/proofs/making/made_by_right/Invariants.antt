use Rattle.std.proofs.Common.{◌+◌, ◌≤◌, take}
use Rattle.std.specs.Prelude.{IsPermutation}
use Rattle.list_change.specs.Pairing.{by_right}
use Rattle.made_rules.specs.Rules.{rules_in}
use Rattle.incr_compile.specs.Candidates.{right_cost}
use Rattle.incr_compile.specs.Ways.{held_way}
use Rattle.incr_compile.proofs.making.made_by_right.Given as goal

abbrev pub invariant-loop-b : goal.invariant-loop-b
invariant-loop-b g l = record {
  made : IsPermutation l.fresh.items (by_right (held_way l.op l.size) (rules_in l.left) (take l.b-index l.come));
  steps : l.steps ≤ l.fn.steps + right_cost l.op (rules_in l.left) (take l.b-index l.come);
}
