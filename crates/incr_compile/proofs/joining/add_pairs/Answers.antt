use Rattle.std.proofs.Common.{arith, rules}
use Rattle.incr_compile.proofs.Joins.{made-more}
use Rattle.incr_compile.proofs.joining.add_pairs.Goals as goal

pub loop-b-preserved : goal.loop-b-preserved
loop-b-preserved g c = record {
  made = made-more c.args.op c.args.size c.args.a.now c.args.rights.now c.loop-b.b-index c.b-item.result
      c.args.fresh.now.items c.loop-b.fresh.items c.keep.new.fresh.items c.in_ok-rule.rule
      c.loop-b-test.true c.b-item.is c.loop-b.invariant.made (search rules) (search rules);
  steps = let s = c.join.ensures.step in let t = c.loop-b.invariant.steps in omega arith;
}
