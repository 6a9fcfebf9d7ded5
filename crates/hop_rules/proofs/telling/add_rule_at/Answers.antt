use Rattle.std.proofs.Common.{◌∙◌, Some, ap, sym}
use Rattle.std.proofs.lemmas.Result.{on_ok_weaker}
use Rattle.made_rules.specs.Rules.{rules_in}
use Rattle.hop_rules.proofs.Under.{item-added, none-added}
use Rattle.hop_rules.proofs.telling.add_rule_at.Goals as goal

pub returns-in_ok-copy-in-Some : goal.returns-in_ok-copy-in-Some
returns-in_ok-copy-in-Some c =
    on_ok_weaker c.push.result
    (λ e. e ∙ item-added (rules_in c.args.node.now.held) c.args.id c.in_ok-copy-in-Some.field-0 c.args.rules.now
    (sym c.in-Some.ensures.rule ∙ ap Some (sym c.in_ok-copy-in-Some.ensures)))
    c.push.ensures.pushed

pub returns-in-None : goal.returns-in-None
returns-in-None c = none-added (rules_in c.args.node.now.held) c.args.id c.args.rules.now (sym c.in-None.ensures.rule)
