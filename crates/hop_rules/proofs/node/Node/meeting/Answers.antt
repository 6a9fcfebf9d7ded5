use Rattle.std.proofs.Common.{subst, ap, ◌∙◌, map}
use Rattle.std.specs.Prelude.{IsPermutation, filter}
use Rattle.std.specs.List.Sorted.{IsStrictlySortedBy}
use Rattle.std.specs.Ordering.{nat_cmp}
use Rattle.std.proofs.lemmas.List.Sorted.{IsPermutation-sym, IsPermutation-trans}
use Rattle.list_change.proofs.Permute.{by-equation}
use Rattle.rule_ancestry.specs.Holding.{id_of}
use Rattle.made_rules.specs.Rules.{rules_in}
use Rattle.hop_rules.specs.Nodes.{NodeOf}
use Rattle.hop_rules.proofs.HeldRules.{same-ids}
use Rattle.hop_rules.proofs.Found.{found-ids, meets}
use Rattle.hop_rules.proofs.node.Node.meeting.Goals as goal

pub returns-clause-ids : goal.returns-clause-ids
returns-clause-ids c =
    let read = ap (λ (n : NodeOf). n.read) c.self.view_is ∙ c.requires in
    let all = found-ids c.args.m.now c.self.inside.index.items (rules_in c.self.inside.store) (c.self.invariant read) in
    subst (λ held. IsPermutation c.in_ok-ids.ids.items (map id_of (filter (meets c.args.m.now) (rules_in held))))
    (ap (λ (n : NodeOf). n.held) c.self.view_is)
    (IsPermutation-trans _ _ _ (by-equation _ _ (c.in_ok-ids.ensures ∙ c.as_slice.ensures))
    (IsPermutation-trans _ _ _ (IsPermutation-sym _ _ c.in_ok-found.ensures.ids) all))

pub returns-clause-rising : goal.returns-clause-rising
returns-clause-rising c = subst (IsStrictlySortedBy nat_cmp)
    (same-ids c.self.inside.store ∙ ap (λ (n : NodeOf). map id_of (rules_in n.held)) c.self.view_is)
    c.len-count.ensures.rising
