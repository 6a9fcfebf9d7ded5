use Rattle.std.proofs.Common.{◌∙◌, ◌++◌, ◌+◌, ◌≤◌, cond, ap, arith, subst, sym}
use Rattle.std.specs.Prelude.{count_by, filter_map}
use Rattle.std.proofs.lemmas.List.{append-nil}
use Rattle.std.proofs.lemmas.List.Elements.{filter_map-append}
use Rattle.std.proofs.lemmas.List.Sums.{sum_by-append}
use Rattle.policy_meaning.specs.declared.rule.Rule.{Rule}
use Rattle.rule_ancestry.specs.Holding.{Held}
use Rattle.hop_rules.specs.Nodes.{Arrival, hop_way, leads_over}
use Rattle.hop_rules.proofs.Under.{made-more, steps-ended, steps-more, under-all}
use Rattle.hop_rules.proofs.meeting.add_each_met.Goals as goal

pub loop-id-init : goal.loop-id-init
loop-id-init g c = record { made = sym (append-nil c.args.fresh.now.items); steps = omega arith }

pub loop-id-preserved : goal.loop-id-preserved
loop-id-preserved g c =
    let a = c.args.around in
    let y : Arrival = record {
      place = c.args.place;
      held = record { id = c.args.there.id; item = c.args.there.rule.now };
    } in
    let f = λ (h : Held Rule). (hop_way a.at a.size a.given.now.exits).pair h y in
    let p = leads_over a.at a.given.now.exits c.args.place in
    record {
      made = made-more (filter_map f) (filter_map-append f) a.given.now.rules c.args.ids.now c.loop-id.id-index 0
          c.loop-id-test.true c.args.fresh.now.items c.loop-id.fresh.items c.add_met_at.new.fresh.items
          c.loop-id.invariant.made c.in_ok-add_met_at.ensures.pushed;
      steps = steps-more (count_by p) (sum_by-append (λ (h : Held Rule). cond (p h) 1 0)) a.given.now.rules
          c.args.ids.now c.loop-id.id-index 0 c.loop-id-test.true c.args.steps.now c.loop-id.steps
          c.add_met_at.new.steps
          c.loop-id.invariant.steps c.add_met_at.ensures.steps;
    }

pub returns-in_err-add_met_at-clause-steps : goal.returns-in_err-add_met_at-clause-steps
returns-in_err-add_met_at-clause-steps g c =
    let a = c.args.around in
    let p = leads_over a.at a.given.now.exits c.args.place in
    steps-ended (count_by p) (sum_by-append (λ (h : Held Rule). cond (p h) 1 0)) a.given.now.rules c.args.ids.now
    c.loop-id.id-index 0 c.loop-id-test.true c.args.steps.now c.loop-id.steps c.add_met_at.new.steps
    c.loop-id.invariant.steps c.add_met_at.ensures.steps

pub returns-clause-pushed : goal.returns-clause-pushed
returns-clause-pushed g c =
    let a = c.args.around in
    let y : Arrival = record {
      place = c.args.place;
      held = record { id = c.args.there.id; item = c.args.there.rule.now };
    } in
    let f = λ (h : Held Rule). (hop_way a.at a.size a.given.now.exits).pair h y in
    c.loop-id.invariant.made ∙ ap (λ z. c.args.fresh.now.items ++ filter_map f z)
    (under-all a.given.now.rules c.args.ids.now c.loop-id.id-index (omega (arith, c.loop-id-test.false)))

pub returns-clause-steps : goal.returns-clause-steps
returns-clause-steps g c =
    let a = c.args.around in
    subst (λ hs. c.loop-id.steps ≤ c.args.steps.now + count_by (leads_over a.at a.given.now.exits c.args.place) hs)
    (under-all a.given.now.rules c.args.ids.now c.loop-id.id-index (omega (arith, c.loop-id-test.false)))
    c.loop-id.invariant.steps
