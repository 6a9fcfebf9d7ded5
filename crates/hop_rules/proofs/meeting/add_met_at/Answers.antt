use Rattle.std.proofs.Common.{◌∙◌, ◌++◌, ap, arith, sym}
use Rattle.std.specs.Prelude.{count_by, filter_map}
use Rattle.std.proofs.lemmas.Result.{on_ok_weaker}
use Rattle.policy_meaning.specs.declared.rule.Rule.{Rule}
use Rattle.rule_ancestry.specs.Holding.{Held}
use Rattle.hop_rules.specs.Nodes.{Arrival, IsOwn, hop_way, leads_over}
use Rattle.hop_rules.proofs.Joined.{nothing-pushed}
use Rattle.hop_rules.proofs.Numbered.{one-kept}
use Rattle.hop_rules.proofs.Under.{held-some, picked}
use Rattle.hop_rules.proofs.meeting.add_met_at.Goals as goal

pub add_met-requires-clause-own : goal.add_met-requires-clause-own
add_met-requires-clause-own g c =
    let s = c.requires.around.1 in
    let o = picked (λ (a : Held Rule). IsOwn c.requires.around.0 a.item) c.args.around.given.now.rules c.args.id
    c.in-Some.rule.now s.rules (sym c.in-Some.ensures.rule) in
    (c.requires.around.0, o.below, s.fits)

pub returns-in-Some-clause-pushed : goal.returns-in-Some-clause-pushed
returns-in-Some-clause-pushed g c =
    let a = c.args.around in
    let h : Held Rule = record { id = c.args.id; item = c.in-Some.rule.now } in
    let y : Arrival = record {
      place = c.args.place;
      held = record { id = c.args.there.id; item = c.args.there.rule.now };
    } in
    let f = λ (h : Held Rule). (hop_way a.at a.size a.given.now.exits).pair h y in
    on_ok_weaker c.add_met.result
    (λ e. e ∙ ap (λ z. c.args.fresh.now.items ++ z) (sym (one-kept (f h))
    ∙ ap (filter_map f)
    (sym (held-some a.given.now.rules c.args.id c.in-Some.rule.now (sym c.in-Some.ensures.rule)))))
    c.add_met.ensures.pushed

pub returns-in-Some-clause-steps : goal.returns-in-Some-clause-steps
returns-in-Some-clause-steps g c =
    let a = c.args.around in
    let e = ap (count_by (leads_over a.at a.given.now.exits c.args.place))
    (held-some a.given.now.rules c.args.id c.in-Some.rule.now (sym c.in-Some.ensures.rule)) in
    let s = c.add_met.ensures.steps in
    omega arith

pub returns-in-None-clause-pushed : goal.returns-in-None-clause-pushed
returns-in-None-clause-pushed g c =
    let a = c.args.around in
    let y : Arrival = record {
      place = c.args.place;
      held = record { id = c.args.there.id; item = c.args.there.rule.now };
    } in
    nothing-pushed (λ (h : Held Rule). (hop_way a.at a.size a.given.now.exits).pair h y) a.given.now.rules c.args.id
    c.args.fresh.now.items (sym c.in-None.ensures.rule)
