use Rattle.std.proofs.Common.{◌∙◌, ap, map}
use Rattle.std.proofs.lemmas.Result.{IfOk-weaker}
use Rattle.rule_ancestry.specs.Holding.{item_of}
use Rattle.made_rules.specs.Rules.{rules_in}
use Rattle.hop_rules.specs.Under.{under}
use Rattle.hop_rules.proofs.Under.{under-itself}
use Rattle.hop_rules.proofs.telling.rules_of.Goals as goal

pub returns : goal.returns
returns c =
    let held = rules_in c.args.node.now.held in
    IfOk-weaker c.rules_under.result _ _
    (λ rules e. e ∙ ap (map item_of) (ap (under held) (c.deref.ensures.value ∙ c.in_ok-ids.ensures.ids)
    ∙ under-itself held c.in_ok-ids.ensures.rising))
    c.rules_under.ensures
