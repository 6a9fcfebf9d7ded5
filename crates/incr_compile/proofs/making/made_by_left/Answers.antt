use Rattle.std.proofs.Common.{◌+◌}
use Rattle.std.specs.Prelude.{count_by}
use Rattle.policy_meaning.specs.declared.rule.Rule.{Rule}
use Rattle.rule_ancestry.specs.Holding.{Held}
use Rattle.made_rules.specs.Rules.{rules_in}
use Rattle.incr_compile.specs.Candidates.{could_meet}
use Rattle.incr_compile.proofs.Enough.{cost-more, cost-within, lefts-more}
use Rattle.incr_compile.proofs.making.made_by_left.Goals as goal

pub returns-in_err-add_left-clause-steps : goal.returns-in_err-add_left-clause-steps
returns-in_err-add_left-clause-steps g c =
    cost-within (λ (a : Held Rule). 1 + count_by (λ (b : Held Rule). could_meet c.args.op a.item b.item)
    (rules_in c.args.right.now))
    c.args.come.now c.loop-a.a-index c.a-item.result c.args.steps.now c.loop-a.steps c.add_left.new.steps
    c.loop-a-test.true c.a-item.is c.loop-a.invariant.steps c.add_left.ensures.steps

pub loop-a-preserved : goal.loop-a-preserved
loop-a-preserved g c = record {
  made =
      lefts-more c.args.op c.args.size (rules_in c.args.right.now) c.args.come.now c.loop-a.a-index c.a-item.result
      c.loop-a.fresh.items c.add_left.new.fresh.items c.loop-a-test.true c.a-item.is c.loop-a.invariant.made
      c.in_ok-add_left.ensures.made;
  steps =
      cost-more (λ (a : Held Rule). 1 + count_by (λ (b : Held Rule). could_meet c.args.op a.item b.item)
      (rules_in c.args.right.now))
      c.args.come.now c.loop-a.a-index c.a-item.result c.args.steps.now c.loop-a.steps c.add_left.new.steps
      c.loop-a-test.true c.a-item.is c.loop-a.invariant.steps c.add_left.ensures.steps;
}
