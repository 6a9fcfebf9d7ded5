use Rattle.std.proofs.Common.{◌+◌, arith}
use Rattle.std.specs.Prelude.{count_by}
use Rattle.policy_meaning.specs.declared.rule.Rule.{Rule}
use Rattle.rule_ancestry.specs.Holding.{Held}
use Rattle.made_rules.specs.Rules.{rules_in}
use Rattle.incr_compile.specs.Candidates.{could_meet}
use Rattle.incr_compile.proofs.Enough.{cost-more, cost-within, rights-more, rights-none}
use Rattle.incr_compile.proofs.making.made_by_right.Goals as goal

pub loop-b-init : goal.loop-b-init
loop-b-init g c = record {
  made = rights-none c.args.op c.args.size (rules_in c.args.left.now) c.new-fresh.result.items
      c.new-fresh.ensures.items;
  steps = omega arith;
}

pub returns-in_err-add_right-clause-steps : goal.returns-in_err-add_right-clause-steps
returns-in_err-add_right-clause-steps g c =
    cost-within (λ (b : Held Rule). 1 + count_by (λ (a : Held Rule). could_meet c.args.op a.item b.item)
    (rules_in c.args.left.now))
    c.args.come.now c.loop-b.b-index c.b-item.result c.args.steps.now c.loop-b.steps c.add_right.new.steps
    c.loop-b-test.true c.b-item.is c.loop-b.invariant.steps c.add_right.ensures.steps

pub loop-b-preserved : goal.loop-b-preserved
loop-b-preserved g c = record {
  made =
      rights-more c.args.op c.args.size (rules_in c.args.left.now) c.args.come.now c.loop-b.b-index c.b-item.result
      c.loop-b.fresh.items c.add_right.new.fresh.items c.loop-b-test.true c.b-item.is c.loop-b.invariant.made
      c.in_ok-add_right.ensures.made;
  steps =
      cost-more (λ (b : Held Rule). 1 + count_by (λ (a : Held Rule). could_meet c.args.op a.item b.item)
      (rules_in c.args.left.now))
      c.args.come.now c.loop-b.b-index c.b-item.result c.args.steps.now c.loop-b.steps c.add_right.new.steps
      c.loop-b-test.true c.b-item.is c.loop-b.invariant.steps c.add_right.ensures.steps;
}
