use Rattle.std.proofs.Common.{◌+◌, ◌≤◌, map, subst, sym}
use Rattle.std.specs.Prelude.{IsPermutation, filter}
use Rattle.std.proofs.lemmas.Result.{on_ok_weaker}
use Rattle.of10_match.specs.Matching.{overlaps}
use Rattle.policy_meaning.specs.declared.rule.Rule.{Rule}
use Rattle.rule_ancestry.specs.Holding.{Held, id_of}
use Rattle.made_rules.specs.Rules.{rules_in}
use Rattle.hop_rules.specs.Standing.{asked}
use Rattle.hop_rules.proofs.Joined.{pairs-walked}
use Rattle.hop_rules.proofs.Walking.{candidates-count}
use Rattle.hop_rules.proofs.joining.add_pairs.Goals as goal

pub returns-clause-pushed : goal.returns-clause-pushed
returns-clause-pushed g c =
    let held = rules_in c.args.there.now.held in
    let a = c.args.here.rule.now in
    let dep = c.args.departure.now in
    let ids =
    subst (λ m. IsPermutation c.in_ok-ids.ids.items
    (map id_of (filter (λ (h : Held Rule). overlaps m h.item.m) held))) c.asked.ensures c.in_ok-ids.ensures.ids in
    let found =
    subst (λ z. IsPermutation z (map id_of (filter (λ (h : Held Rule). overlaps (asked a.m dep) h.item.m) held)))
    (sym c.deref.ensures.value) ids in
    on_ok_weaker c.add_each_pair.result
    (λ e. pairs-walked c.args.size c.args.size c.args.here.id a dep held c.deref.result.now c.args.fresh.now.items
    c.add_each_pair.new.fresh.items c.requires.own.1.normal c.requires.arriving c.in_ok-ids.ensures.rising found e)
    c.add_each_pair.ensures.pushed

pub returns-clause-steps : goal.returns-clause-steps
returns-clause-steps g c =
    let held = rules_in c.args.there.now.held in
    let a = c.args.here.rule.now in
    let dep = c.args.departure.now in
    let ids =
    subst (λ m. IsPermutation c.in_ok-ids.ids.items
    (map id_of (filter (λ (h : Held Rule). overlaps m h.item.m) held))) c.asked.ensures c.in_ok-ids.ensures.ids in
    let found =
    subst (λ z. IsPermutation z (map id_of (filter (λ (h : Held Rule). overlaps (asked a.m dep) h.item.m) held)))
    (sym c.deref.ensures.value) ids in
    let n = candidates-count (λ (h : Held Rule). overlaps (asked a.m dep) h.item.m) held c.deref.result.now found in
    subst (λ k. c.add_each_pair.new.steps ≤ c.args.steps.now + k) n c.add_each_pair.ensures.steps
