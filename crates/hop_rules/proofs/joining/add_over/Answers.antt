use Rattle.std.proofs.Common.{◌≡◌, ◌∙◌, ◌++◌, ◌+◌, ◌≤◌, List, ap, subst, sym, true}
use Rattle.std.specs.Prelude.{IsPermutation, count_by, filter_map}
use Rattle.std.specs.List.{AllByRecursion}
use Rattle.std.proofs.lemmas.List.{append-nil}
use Rattle.std.proofs.lemmas.Result.{on_ok_weaker}
use Rattle.list_change.proofs.Permute.{by-equation}
use Rattle.of10_match.specs.Matching.{overlaps}
use Rattle.policy_meaning.specs.declared.rule.Rule.{Rule}
use Rattle.rule_ancestry.specs.Holding.{Held}
use Rattle.made_rules.specs.Rules.{rules_in}
use Rattle.made_rules.specs.declared.made.Made.{Made}
use Rattle.hop_rules.specs.Nodes.{IsAt, NodeOf, pair_with}
use Rattle.hop_rules.specs.Standing.{asked}
use Rattle.hop_rules.proofs.Joined.{all-got, arriving-there, got-held, got-none, got-past, got-some}
use Rattle.hop_rules.proofs.joining.add_over.Goals as goal

pub add_pairs-requires-clause-leaving : goal.add_pairs-requires-clause-leaving
add_pairs-requires-clause-leaving g c = (c.args.around.given.now.exits, c.args.around.at.port, c.requires.leaving)

pub add_pairs-requires-clause-read : goal.add_pairs-requires-clause-read
add_pairs-requires-clause-read g c =
    all-got (λ (n : NodeOf). n.read ≡ true) c.args.around.below.now c.args.departure.now.exit.place c.in-Some.there.now
    c.requires.around.set_up.read
    (got-some c.args.around.below.now c.args.departure.now.exit.place c.in-Some.there.now
    c.in-Some.ensures.lookup.3.0 c.in-Some.ensures.lookup.1)

pub add_pairs-requires-clause-arriving : goal.add_pairs-requires-clause-arriving
add_pairs-requires-clause-arriving g c =
    let s = c.requires.around.set_up in
    subst
    (λ held. AllByRecursion (λ (b : Held Rule). IsAt c.args.around.size c.args.departure.now.exit.peer.port b.item)
    (rules_in held))
    (got-held c.args.around.below.now c.args.departure.now.exit.place c.in-Some.there.now
    (got-some c.args.around.below.now c.args.departure.now.exit.place c.in-Some.there.now
    c.in-Some.ensures.lookup.3.0 c.in-Some.ensures.lookup.1))
    (arriving-there c.args.around.below.now c.args.around.size c.args.around.given.now.exits c.args.around.at.port
    c.args.here.rule.now c.args.departure.now s.arriving c.requires.leaving)

pub add_pairs-requires-clause-own : goal.add_pairs-requires-clause-own
add_pairs-requires-clause-own g c = let r = c.requires.around in (r.own, r.is_own, r.set_up.fits)

pub returns-in-Some-clause-pushed : goal.returns-in-Some-clause-pushed
returns-in-Some-clause-pushed g c =
    let f = pair_with c.args.around.size c.args.here.id c.args.here.rule.now c.args.departure.now in
    on_ok_weaker c.add_pairs.result
    (λ p. subst (λ held. IsPermutation c.add_pairs.new.fresh.items
    (c.args.fresh.now.items ++ filter_map f (rules_in held)))
    (sym (got-held c.args.around.below.now c.args.departure.now.exit.place c.in-Some.there.now
    (got-some c.args.around.below.now c.args.departure.now.exit.place c.in-Some.there.now
    c.in-Some.ensures.lookup.3.0 c.in-Some.ensures.lookup.1))) p)
    c.add_pairs.ensures.pushed

pub returns-in-Some-clause-steps : goal.returns-in-Some-clause-steps
returns-in-Some-clause-steps g c =
    let q = λ (b : Held Rule). overlaps (asked c.args.here.rule.now.m c.args.departure.now) b.item.m in
    subst (λ held. c.add_pairs.new.steps ≤ c.args.steps.now + count_by q (rules_in held))
    (sym (got-held c.args.around.below.now c.args.departure.now.exit.place c.in-Some.there.now
    (got-some c.args.around.below.now c.args.departure.now.exit.place c.in-Some.there.now
    c.in-Some.ensures.lookup.3.0 c.in-Some.ensures.lookup.1)))
    c.add_pairs.ensures.steps

pub returns-in-None-clause-pushed : goal.returns-in-None-clause-pushed
returns-in-None-clause-pushed g c =
    let f = pair_with c.args.around.size c.args.here.id c.args.here.rule.now c.args.departure.now in
    by-equation _ _
    (sym (ap (λ (held : List (Held Made)). c.args.fresh.now.items ++ filter_map f (rules_in held))
    (got-none c.args.around.below.now c.args.departure.now.exit.place
    (got-past c.args.around.below.now c.args.departure.now.exit.place c.in-None.ensures.lookup.3))
    ∙ append-nil c.args.fresh.now.items))
