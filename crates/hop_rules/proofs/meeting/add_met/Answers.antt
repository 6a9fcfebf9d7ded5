use Rattle.std.proofs.Common.{◌∙◌, ◌++◌, ◌<◌, ap, arith, subst, sym}
use Rattle.std.specs.Prelude.{option_to_list}
use Rattle.std.proofs.lemmas.List.{append-nil}
use Rattle.std.proofs.lemmas.Result.{on_ok_weaker}
use Rattle.policy_meaning.specs.declared.rule.Rule.{Rule}
use Rattle.policy_meaning.proofs.Chains.{high}
use Rattle.rule_ancestry.specs.Holding.{Held}
use Rattle.hop_rules.specs.Nodes.{leads_over, leads_to}
use Rattle.hop_rules.proofs.Reached.{counts-one, led-joins, led-over, led-stood, stood, unled, unstood}
use Rattle.hop_rules.proofs.meeting.add_met.Goals as goal

pub returns-then-not-leads_to-clause-pushed : goal.returns-then-not-leads_to-clause-pushed
returns-then-not-leads_to-clause-pushed g c =
    let a = c.args.around in
    let h : Held Rule = record { id = c.args.here.id; item = c.args.here.rule.now } in
    let b : Held Rule = record { id = c.args.there.id; item = c.args.there.rule.now } in
    sym (ap (λ o. c.args.fresh.now.items ++ option_to_list o)
    (unled a.at a.size a.given.now.exits h c.args.place b (sym c.leads_to.ensures ∙ c.if-not-leads_to.true))
    ∙ append-nil c.args.fresh.now.items)

pub returns-in-None-clause-pushed : goal.returns-in-None-clause-pushed
returns-in-None-clause-pushed g c =
    let a = c.args.around in
    let h : Held Rule = record { id = c.args.here.id; item = c.args.here.rule.now } in
    let b : Held Rule = record { id = c.args.there.id; item = c.args.there.rule.now } in
    sym (ap (λ o. c.args.fresh.now.items ++ option_to_list o)
    (unstood a.at a.size a.given.now.exits h (record { place = c.args.place; held = b })
    (sym c.in_ok-stood.ensures ∙ c.in-None.is)) ∙ append-nil c.args.fresh.now.items)

pub add_pair-requires-clause-joins : goal.add_pair-requires-clause-joins
add_pair-requires-clause-joins g c =
    let a = c.args.around in
    let s = stood a.at c.args.here.rule.now c.in-Some.rule (sym c.in_ok-stood.ensures ∙ c.in-Some.is) in
    led-joins a.given.now.exits a.at.port c.args.place c.in-Some.rule.tail
    (ap (λ t. leads_to a.given.now.exits a.at.port t c.args.place) s.tail ∙ sym c.leads_to.ensures
    ∙ c.if-not-leads_to.false)

pub add_pair-requires-clause-level : goal.add_pair-requires-clause-level
add_pair-requires-clause-level g c =
    let a = c.args.around in
    let o = c.requires.own in
    let s = stood a.at c.args.here.rule.now c.in-Some.rule (sym c.in_ok-stood.ensures ∙ c.in-Some.is) in
    let l : c.in-Some.rule.level < o.0 = subst (λ n. n < o.0) (sym s.level) o.1 in
    let k = high c.in-Some.rule.level o.0 a.size c.args.there.rule.now.level l c.requires.below in
    let f = o.2 in
    omega arith

pub returns-in-Some-clause-pushed : goal.returns-in-Some-clause-pushed
returns-in-Some-clause-pushed g c =
    let a = c.args.around in
    let h : Held Rule = record { id = c.args.here.id; item = c.args.here.rule.now } in
    let b : Held Rule = record { id = c.args.there.id; item = c.args.there.rule.now } in
    on_ok_weaker c.add_pair.result
    (λ e. e ∙ ap (λ o. c.args.fresh.now.items ++ option_to_list o)
    (led-stood a.at a.size a.given.now.exits h c.args.place b c.in-Some.rule
    (sym c.in_ok-stood.ensures ∙ c.in-Some.is) (sym c.leads_to.ensures ∙ c.if-not-leads_to.false)))
    c.add_pair.ensures.pushed

pub returns-in-Some-clause-steps : goal.returns-in-Some-clause-steps
returns-in-Some-clause-steps g c =
    let a = c.args.around in
    let h : Held Rule = record { id = c.args.here.id; item = c.args.here.rule.now } in
    let n = counts-one (leads_over a.at a.given.now.exits c.args.place) h
    (led-over a.at a.size a.given.now.exits h c.args.place c.in-Some.rule (sym c.in_ok-stood.ensures ∙ c.in-Some.is)
    (sym c.leads_to.ensures ∙ c.if-not-leads_to.false)) in
    let s = c.add_pair.ensures.step in
    omega arith
