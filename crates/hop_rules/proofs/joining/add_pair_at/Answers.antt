use Rattle.std.proofs.Common.{sym}
use Rattle.std.proofs.lemmas.Result.{on_ok_weaker}
use Rattle.policy_meaning.specs.declared.rule.Rule.{Rule}
use Rattle.rule_ancestry.specs.Holding.{Held}
use Rattle.made_rules.specs.Rules.{rules_in}
use Rattle.hop_rules.specs.Nodes.{IsAt, pair_with}
use Rattle.hop_rules.proofs.Joined.{nothing-pushed, pair-level, pair-pushed}
use Rattle.hop_rules.proofs.Making.{joins-by}
use Rattle.hop_rules.proofs.Under.{picked}
use Rattle.hop_rules.proofs.joining.add_pair_at.Goals as goal

pub add_pair-requires-clause-joins : goal.add_pair-requires-clause-joins
add_pair-requires-clause-joins g c =
    let r = c.requires.leaving in
    joins-by r.0 r.1 c.args.departure.now c.args.here.rule.now.tail r.2

pub add_pair-requires-clause-level : goal.add_pair-requires-clause-level
add_pair-requires-clause-level g c =
    let o = c.requires.own in
    let b = picked (λ (b : Held Rule). IsAt c.args.size c.args.departure.now.exit.peer.port b.item)
    (rules_in c.args.there.now.held) c.args.id c.in-Some.rule.now c.requires.arriving
    (sym c.in-Some.ensures.rule) in
    pair-level o.0 c.args.size c.args.here.rule.now c.in-Some.rule.now o.1 b.below o.2

pub returns-in-Some-clause-pushed : goal.returns-in-Some-clause-pushed
returns-in-Some-clause-pushed g c =
    let r = c.requires.leaving in
    on_ok_weaker c.add_pair.result
    (λ e. pair-pushed r.0 r.1 c.args.departure.now c.args.size c.args.here.id c.args.here.rule.now
    (rules_in c.args.there.now.held) c.args.id c.in-Some.rule.now c.args.fresh.now.items c.add_pair.new.fresh.items
    r.2 (sym c.in-Some.ensures.rule) e)
    c.add_pair.ensures.pushed

pub returns-in-None-clause-pushed : goal.returns-in-None-clause-pushed
returns-in-None-clause-pushed g c =
    nothing-pushed (pair_with c.args.size c.args.here.id c.args.here.rule.now c.args.departure.now)
    (rules_in c.args.there.now.held) c.args.id c.args.fresh.now.items (sym c.in-None.ensures.rule)
