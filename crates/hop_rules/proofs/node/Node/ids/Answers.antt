use Rattle.std.proofs.Common.{◌∙◌, ap, map, subst}
use Rattle.std.specs.List.Sorted.{IsStrictlySortedBy}
use Rattle.std.specs.Ordering.{nat_cmp}
use Rattle.std.proofs.lemmas.Result.{IfOk-weaker}
use Rattle.rule_ancestry.specs.Holding.{id_of}
use Rattle.made_rules.specs.Rules.{rules_in}
use Rattle.hop_rules.specs.Nodes.{NodeOf}
use Rattle.hop_rules.proofs.HeldRules.{same-ids}
use Rattle.hop_rules.proofs.node.Node.ids.Goals as goal

pub returns-clause-ids : goal.returns-clause-ids
returns-clause-ids c =
    IfOk-weaker c.ids.result _ _
    (λ ids e. e ∙ same-ids c.self.inside.store ∙ ap (λ (n : NodeOf). map id_of (rules_in n.held)) c.self.view_is)
    c.ids.ensures

pub returns-clause-rising : goal.returns-clause-rising
returns-clause-rising c = subst (IsStrictlySortedBy nat_cmp)
    (same-ids c.self.inside.store ∙ ap (λ (n : NodeOf). map id_of (rules_in n.held)) c.self.view_is)
    c.len-count.ensures.rising
