use Rattle.std.proofs.Common.{◌++◌, ◌+◌, ◌≤◌, List, take}
use Rattle.std.specs.Prelude.{IsPermutation}
use Rattle.policy_meaning.specs.declared.rule.Rule.{Rule}
use Rattle.rule_ancestry.specs.Holding.{Held}
use Rattle.hop_rules.specs.Handed.{AreListed}
use Rattle.hop_rules.specs.Nodes.{made_right}
use Rattle.hop_rules.specs.Turns.{came_there, right_cost}
use Rattle.hop_rules.specs.Under.{AreFound}
use Rattle.hop_rules.proofs.turning.add_by_exits.Given as goal

abbrev pub invariant-loop-exit : goal.invariant-loop-exit
invariant-loop-exit g l = record {
  made : (kept : List (Held Rule)) → AreListed l.around.given.now kept → AreFound l.around.given.now.rules kept →
      IsPermutation l.fresh.items
      (l.fn.fresh.items ++ made_right l.around.at l.around.size l.around.given.now.exits kept
      (came_there l.around.below.now l.turns (take l.exit-index l.exits)));
  steps : (kept : List (Held Rule)) → AreListed l.around.given.now kept → AreFound l.around.given.now.rules kept →
      l.steps ≤ l.fn.steps + right_cost l.around.at l.around.given.now.exits kept
      (came_there l.around.below.now l.turns (take l.exit-index l.exits));
}
