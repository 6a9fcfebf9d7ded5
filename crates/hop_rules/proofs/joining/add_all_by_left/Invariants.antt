use Rattle.std.proofs.Common.{◌++◌, ◌+◌, ◌≤◌, take}
use Rattle.std.specs.Prelude.{IsPermutation}
use Rattle.hop_rules.specs.Nodes.{arrivals, made_left}
use Rattle.hop_rules.specs.Turns.{left_cost}
use Rattle.hop_rules.specs.Under.{under}
use Rattle.hop_rules.proofs.joining.add_all_by_left.Given as goal

abbrev pub invariant-loop-id : goal.invariant-loop-id
invariant-loop-id g l = record {
  made : IsPermutation l.fresh.items
      (l.fn.fresh.items ++ made_left l.around.at l.around.size l.around.given.now.exits
      (arrivals l.around.below.now l.around.given.now.exits) (under l.around.given.now.rules (take l.id-index l.come)));
  steps : l.steps ≤ l.fn.steps + left_cost l.around.at l.around.given.now.exits
      (arrivals l.around.below.now l.around.given.now.exits) (under l.around.given.now.rules (take l.id-index l.come));
}
