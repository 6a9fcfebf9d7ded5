use Rattle.std.proofs.Common.{◌+◌, ◌≤◌, take}
use Rattle.std.specs.Prelude.{IsPermutation}
use Rattle.list_change.specs.Pairing.{by_left}
use Rattle.made_rules.specs.Rules.{rules_in}
use Rattle.incr_compile.specs.Candidates.{left_cost}
use Rattle.incr_compile.specs.Ways.{held_way}
use Rattle.incr_compile.proofs.found.made_of_found.Given as goal

abbrev pub invariant-loop-i : goal.invariant-loop-i
invariant-loop-i g l = record {
  made : IsPermutation l.fresh.items (by_left (held_way l.op l.size) (take l.i l.come) (rules_in l.right));
  steps : l.steps ≤ l.fn.steps + left_cost l.op (rules_in l.right) (take l.i l.come);
}
