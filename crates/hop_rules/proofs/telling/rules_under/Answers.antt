use Rattle.std.proofs.Common.{◌∙◌, [], ap, map, arith}
use Rattle.std.proofs.lemmas.List.{map-append}
use Rattle.rule_ancestry.specs.Holding.{item_of}
use Rattle.made_rules.specs.Rules.{rules_in}
use Rattle.hop_rules.proofs.Under.{made-more, under-all}
use Rattle.hop_rules.proofs.telling.rules_under.Goals as goal

pub loop-id-preserved : goal.loop-id-preserved
loop-id-preserved c =
    made-more (map item_of) (map-append item_of) (rules_in c.args.node.now.held) c.args.ids.now c.loop-id.id-index 0
    c.loop-id-test.true [] c.loop-id.rules c.add_rule_at.new.rules
    c.loop-id.invariant c.in_ok-add_rule_at.ensures

pub returns : goal.returns
returns c = c.loop-id.invariant
    ∙ ap (map item_of) (under-all (rules_in c.args.node.now.held) c.args.ids.now c.loop-id.id-index
    (omega (arith, c.loop-id-test.false)))
