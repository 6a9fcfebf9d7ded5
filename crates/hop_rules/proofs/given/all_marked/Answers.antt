use Rattle.std.proofs.Common.{◌∙◌, ◌++◌, ◌∷◌, [], ap, sym, take}
use Rattle.match_index.proofs.Lists.{take_pushed}
use Rattle.hop_rules.proofs.given.all_marked.Goals as goal

pub loop-rule-preserved : goal.loop-rule-preserved
loop-rule-preserved c =
    c.in_ok-push.ensures.items
    ∙ ap (λ z. z ++ c.in_ok-of.field-0 ∷ []) c.loop-rule.invariant
    ∙ ap (λ r. take c.loop-rule.rule-index c.args.rules.now ++ r ∷ []) c.in_ok-of.ensures
    ∙ sym (take_pushed c.args.rules.now c.loop-rule.rule-index c.rule-item.result c.loop-rule-test.true c.rule-item.is)
