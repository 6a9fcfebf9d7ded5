use Rattle.std.proofs.Common.{◌∙◌, ◌++◌, ap, arith, sym}
use Rattle.std.specs.Prelude.{filter_map}
use Rattle.std.proofs.lemmas.List.{append-nil}
use Rattle.std.proofs.lemmas.List.Elements.{filter_map-append}
use Rattle.made_rules.specs.Rules.{rules_in}
use Rattle.hop_rules.specs.Nodes.{pair_with}
use Rattle.hop_rules.proofs.Under.{made-more, under-all}
use Rattle.hop_rules.proofs.joining.add_each_pair.Goals as goal

pub loop-id-init : goal.loop-id-init
loop-id-init g c = record { made = sym (append-nil c.args.fresh.now.items); steps = omega arith }

pub loop-id-preserved : goal.loop-id-preserved
loop-id-preserved g c =
    let f = pair_with c.args.size c.args.here.id c.args.here.rule.now c.args.departure.now in
    record {
      made = made-more (filter_map f) (filter_map-append f) (rules_in c.args.there.now.held) c.args.ids.now
          c.loop-id.id-index 0 c.loop-id-test.true c.args.fresh.now.items c.loop-id.fresh.items
          c.add_pair_at.new.fresh.items
          c.loop-id.invariant.made c.in_ok-add_pair_at.ensures.pushed;
      steps = let s = c.add_pair_at.ensures.steps in let t = c.loop-id.invariant.steps in omega arith;
    }

pub returns-clause-pushed : goal.returns-clause-pushed
returns-clause-pushed g c =
    let f = pair_with c.args.size c.args.here.id c.args.here.rule.now c.args.departure.now in
    c.loop-id.invariant.made ∙ ap (λ z. c.args.fresh.now.items ++ filter_map f z)
    (under-all (rules_in c.args.there.now.held) c.args.ids.now c.loop-id.id-index
    (omega (arith, c.loop-id-test.false)))

pub returns-clause-steps : goal.returns-clause-steps
returns-clause-steps g c = let s = c.loop-id.invariant.steps in let t = c.loop-id-test.false in omega arith

pub returns-in_err-add_pair_at-clause-steps : goal.returns-in_err-add_pair_at-clause-steps
returns-in_err-add_pair_at-clause-steps g c = let s = c.add_pair_at.ensures.steps in let t =
    c.loop-id.invariant.steps in let l = c.loop-id-test.true in omega arith
