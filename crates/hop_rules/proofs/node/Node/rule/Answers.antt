use Rattle.std.proofs.Common.{◌∙◌, Some, ap, map, subst}
use Rattle.std.specs.Prelude.{option_map}
use Rattle.std.specs.List.Sorted.{IsStrictlySortedBy}
use Rattle.std.specs.Ordering.{nat_cmp}
use Rattle.rule_ancestry.specs.Holding.{id_of, item_at}
use Rattle.made_rules.specs.Rules.{rule_of, rules_in}
use Rattle.hop_rules.specs.Nodes.{NodeOf}
use Rattle.hop_rules.proofs.HeldRules.{rule-at, same-ids}
use Rattle.hop_rules.proofs.node.Node.rule.Goals as goal

pub returns-in-Some-clause-rule : goal.returns-in-Some-clause-rule
returns-in-Some-clause-rule c =
    ap Some c.rule_of.ensures ∙ ap (option_map rule_of) c.in-Some.ensures ∙ rule-at c.self.inside.store c.args.id
    ∙ ap (λ (n : NodeOf). item_at (rules_in n.held) c.args.id) c.self.view_is

pub returns-in-Some-clause-rising : goal.returns-in-Some-clause-rising
returns-in-Some-clause-rising c =
    subst (IsStrictlySortedBy nat_cmp) (same-ids c.self.inside.store
    ∙ ap (λ (n : NodeOf). map id_of (rules_in n.held)) c.self.view_is) c.len-count.ensures.rising

pub returns-in-None-clause-rule : goal.returns-in-None-clause-rule
returns-in-None-clause-rule c =
    ap (option_map rule_of) c.in-None.ensures ∙ rule-at c.self.inside.store c.args.id
    ∙ ap (λ (n : NodeOf). item_at (rules_in n.held) c.args.id) c.self.view_is

pub returns-in-None-clause-rising : goal.returns-in-None-clause-rising
returns-in-None-clause-rising c =
    subst (IsStrictlySortedBy nat_cmp) (same-ids c.self.inside.store
    ∙ ap (λ (n : NodeOf). map id_of (rules_in n.held)) c.self.view_is) c.len-count.ensures.rising
