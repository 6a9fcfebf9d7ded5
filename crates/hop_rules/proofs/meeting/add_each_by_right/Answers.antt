use Rattle.std.proofs.Common.{◌∙◌, ◌++◌, ◌+◌, ◌≤◌, List, ap, arith, map, subst, sym}
use Rattle.std.specs.Prelude.{IsPermutation, count_by, filter_map}
use Rattle.std.proofs.lemmas.Grind.{flat_map-append}
use Rattle.std.proofs.lemmas.List.{append-nil, map-append}
use Rattle.std.proofs.lemmas.List.Sums.{sum_by-append}
use Rattle.list_change.proofs.Permute.{by-equation}
use Rattle.policy_meaning.specs.declared.rule.Rule.{Rule}
use Rattle.rule_ancestry.specs.Holding.{Held}
use Rattle.made_rules.specs.Rules.{rules_in}
use Rattle.hop_rules.specs.Nodes.{Arrival, arrival, could, hop_way, made_right}
use Rattle.hop_rules.specs.Turns.{right_cost}
use Rattle.hop_rules.proofs.Under.{perm-more, steps-ended, steps-more, under-all}
use Rattle.hop_rules.proofs.meeting.add_each_by_right.Goals as goal

pub loop-id-init : goal.loop-id-init
loop-id-init g c = record {
  made = λ kept l f. by-equation _ _ (sym (append-nil c.args.fresh.now.items));
  steps = λ kept l f. omega arith;
}

pub loop-id-preserved : goal.loop-id-preserved
loop-id-preserved g c =
    let a = c.args.around in
    record {
      made = λ kept l f.
          perm-more (λ (hs : List (Held Rule)). made_right a.at a.size a.given.now.exits kept
          (map (arrival c.args.place) hs))
          (λ xs ys. ap (made_right a.at a.size a.given.now.exits kept) (map-append (arrival c.args.place) xs ys)
          ∙ flat_map-append (λ (y : Arrival). filter_map (λ h. (hop_way a.at a.size a.given.now.exits).pair h y) kept)
          (map (arrival c.args.place) xs) (map (arrival c.args.place) ys))
          (rules_in c.args.node.now.held) c.args.come.now c.loop-id.id-index 0 c.loop-id-test.true
          c.args.fresh.now.items c.loop-id.fresh.items c.add_by_right_at.new.fresh.items
          (c.loop-id.invariant.made kept l f) (c.in_ok-add_by_right_at.ensures.pushed kept l f);
      steps = λ kept l f.
          steps-more (λ (hs : List (Held Rule)). right_cost a.at a.given.now.exits kept (map (arrival c.args.place) hs))
          (λ xs ys. ap (right_cost a.at a.given.now.exits kept) (map-append (arrival c.args.place) xs ys)
          ∙ sum_by-append (λ (y : Arrival). count_by (λ h. could a.at a.given.now.exits h y) kept)
          (map (arrival c.args.place) xs) (map (arrival c.args.place) ys))
          (rules_in c.args.node.now.held) c.args.come.now c.loop-id.id-index 0 c.loop-id-test.true c.args.steps.now
          c.loop-id.steps c.add_by_right_at.new.steps
          (c.loop-id.invariant.steps kept l f) (c.add_by_right_at.ensures.steps kept l f);
    }

pub returns-in_err-add_by_right_at-clause-steps : goal.returns-in_err-add_by_right_at-clause-steps
returns-in_err-add_by_right_at-clause-steps g c kept l f =
    let a = c.args.around in
    steps-ended (λ (hs : List (Held Rule)). right_cost a.at a.given.now.exits kept (map (arrival c.args.place) hs))
    (λ xs ys. ap (right_cost a.at a.given.now.exits kept) (map-append (arrival c.args.place) xs ys)
    ∙ sum_by-append (λ (y : Arrival). count_by (λ h. could a.at a.given.now.exits h y) kept)
    (map (arrival c.args.place) xs) (map (arrival c.args.place) ys))
    (rules_in c.args.node.now.held) c.args.come.now c.loop-id.id-index 0 c.loop-id-test.true c.args.steps.now
    c.loop-id.steps c.add_by_right_at.new.steps
    (c.loop-id.invariant.steps kept l f) (c.add_by_right_at.ensures.steps kept l f)

pub returns-clause-pushed : goal.returns-clause-pushed
returns-clause-pushed g c kept l f =
    let a = c.args.around in
    subst (λ (hs : List (Held Rule)). IsPermutation c.loop-id.fresh.items
    (c.args.fresh.now.items ++ made_right a.at a.size a.given.now.exits kept (map (arrival c.args.place) hs)))
    (under-all (rules_in c.args.node.now.held) c.args.come.now c.loop-id.id-index (omega (arith, c.loop-id-test.false)))
    (c.loop-id.invariant.made kept l f)

pub returns-clause-steps : goal.returns-clause-steps
returns-clause-steps g c kept l f =
    let a = c.args.around in
    subst (λ (hs : List (Held Rule)). c.loop-id.steps ≤ c.args.steps.now + right_cost a.at a.given.now.exits kept
    (map (arrival c.args.place) hs))
    (under-all (rules_in c.args.node.now.held) c.args.come.now c.loop-id.id-index (omega (arith, c.loop-id-test.false)))
    (c.loop-id.invariant.steps kept l f)
