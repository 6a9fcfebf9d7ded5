use Rattle.std.proofs.Common.{◌≡◌, ◌++◌, ◌+◌, ◌≤◌, take}
use Rattle.std.specs.Prelude.{filter_map}
use Rattle.made_rules.specs.Rules.{rules_in}
use Rattle.hop_rules.specs.Nodes.{pair_with}
use Rattle.hop_rules.specs.Under.{under}
use Rattle.hop_rules.proofs.joining.add_each_pair.Given as goal

abbrev pub invariant-loop-id : goal.invariant-loop-id
invariant-loop-id g l = record {
  made : l.fresh.items ≡ l.fn.fresh.items ++ filter_map (pair_with l.size l.here.id l.here.rule.now l.departure)
      (under (rules_in l.there.held) (take l.id-index l.ids));
  steps : l.steps ≤ l.fn.steps + l.id-index;
}
