use Rattle.std.proofs.Common.{◌++◌, ◌+◌, ◌≤◌, arith, subst, sym}
use Rattle.std.specs.Prelude.{IsPermutation, count_by}
use Rattle.std.proofs.lemmas.Grind.{flat_map-append}
use Rattle.std.proofs.lemmas.List.{append-nil}
use Rattle.std.proofs.lemmas.List.Sums.{sum_by-append}
use Rattle.list_change.specs.Pairing.{by_one}
use Rattle.list_change.proofs.Permute.{by-equation}
use Rattle.policy_meaning.specs.declared.rule.Rule.{Rule}
use Rattle.rule_ancestry.specs.Holding.{Held}
use Rattle.hop_rules.specs.Nodes.{arrivals, could, hop_way, made_left}
use Rattle.hop_rules.specs.Turns.{left_cost}
use Rattle.hop_rules.proofs.Under.{perm-more, steps-ended, steps-more, under-all}
use Rattle.hop_rules.proofs.joining.add_all_by_left.Goals as goal

pub loop-id-init : goal.loop-id-init
loop-id-init g c = record { made = by-equation _ _ (sym (append-nil c.args.fresh.now.items)); steps = omega arith }

pub loop-id-preserved : goal.loop-id-preserved
loop-id-preserved g c =
    let a = c.args.around in
    let ys = arrivals a.below.now a.given.now.exits in
    record {
      made = perm-more (made_left a.at a.size a.given.now.exits ys)
          (flat_map-append (by_one (hop_way a.at a.size a.given.now.exits) ys)) a.given.now.rules c.args.come.now
          c.loop-id.id-index 0 c.loop-id-test.true
          c.args.fresh.now.items c.loop-id.fresh.items c.add_by_left_at.new.fresh.items c.loop-id.invariant.made
          c.in_ok-add_by_left_at.ensures.pushed;
      steps = steps-more (left_cost a.at a.given.now.exits ys)
          (sum_by-append (λ (h : Held Rule). 1 + count_by (could a.at a.given.now.exits h) ys)) a.given.now.rules
          c.args.come.now c.loop-id.id-index 0 c.loop-id-test.true
          c.args.steps.now c.loop-id.steps c.add_by_left_at.new.steps c.loop-id.invariant.steps
          c.add_by_left_at.ensures.steps;
    }

pub returns-in_err-add_by_left_at-clause-steps : goal.returns-in_err-add_by_left_at-clause-steps
returns-in_err-add_by_left_at-clause-steps g c =
    let a = c.args.around in
    let ys = arrivals a.below.now a.given.now.exits in
    steps-ended (left_cost a.at a.given.now.exits ys)
    (sum_by-append (λ (h : Held Rule). 1 + count_by (could a.at a.given.now.exits h) ys)) a.given.now.rules
    c.args.come.now c.loop-id.id-index 0 c.loop-id-test.true
    c.args.steps.now c.loop-id.steps c.add_by_left_at.new.steps c.loop-id.invariant.steps c.add_by_left_at.ensures.steps

pub returns-clause-pushed : goal.returns-clause-pushed
returns-clause-pushed g c =
    let a = c.args.around in
    subst (λ hs. IsPermutation c.loop-id.fresh.items
    (c.args.fresh.now.items ++ made_left a.at a.size a.given.now.exits (arrivals a.below.now a.given.now.exits) hs))
    (under-all a.given.now.rules c.args.come.now c.loop-id.id-index (omega (arith, c.loop-id-test.false)))
    c.loop-id.invariant.made

pub returns-clause-steps : goal.returns-clause-steps
returns-clause-steps g c =
    let a = c.args.around in
    subst (λ hs. c.loop-id.steps ≤ c.args.steps.now + left_cost a.at a.given.now.exits
    (arrivals a.below.now a.given.now.exits) hs)
    (under-all a.given.now.rules c.args.come.now c.loop-id.id-index (omega (arith, c.loop-id-test.false)))
    c.loop-id.invariant.steps
