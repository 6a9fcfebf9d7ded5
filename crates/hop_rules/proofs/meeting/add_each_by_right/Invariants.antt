use Rattle.std.proofs.Common.{◌++◌, ◌+◌, ◌≤◌, List, map, take}
use Rattle.std.specs.Prelude.{IsPermutation}
use Rattle.policy_meaning.specs.declared.rule.Rule.{Rule}
use Rattle.rule_ancestry.specs.Holding.{Held}
use Rattle.made_rules.specs.Rules.{rules_in}
use Rattle.hop_rules.specs.Handed.{AreListed}
use Rattle.hop_rules.specs.Nodes.{arrival, made_right}
use Rattle.hop_rules.specs.Turns.{right_cost}
use Rattle.hop_rules.specs.Under.{AreFound, under}
use Rattle.hop_rules.proofs.meeting.add_each_by_right.Given as goal

abbrev pub invariant-loop-id : goal.invariant-loop-id
invariant-loop-id g l = record {
  made : (kept : List (Held Rule)) → AreListed l.around.given.now kept → AreFound l.around.given.now.rules kept →
      IsPermutation l.fresh.items
      (l.fn.fresh.items ++ made_right l.around.at l.around.size l.around.given.now.exits kept
      (map (arrival l.place) (under (rules_in l.node.held) (take l.id-index l.come))));
  steps : (kept : List (Held Rule)) → AreListed l.around.given.now kept → AreFound l.around.given.now.rules kept →
      l.steps ≤ l.fn.steps + right_cost l.around.at l.around.given.now.exits kept
      (map (arrival l.place) (under (rules_in l.node.held) (take l.id-index l.come)));
}
