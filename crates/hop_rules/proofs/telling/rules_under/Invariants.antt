use Rattle.std.proofs.Common.{◌≡◌, map, take}
use Rattle.rule_ancestry.specs.Holding.{item_of}
use Rattle.made_rules.specs.Rules.{rules_in}
use Rattle.hop_rules.specs.Under.{under}
use Rattle.hop_rules.proofs.telling.rules_under.Given as goal

abbrev pub invariant-loop-id : goal.invariant-loop-id
invariant-loop-id l = l.rules ≡ map item_of (under (rules_in l.node.held) (take l.id-index l.ids))
