use Rattle.std.proofs.Common.{[], refl}
use Rattle.policy_meaning.proofs.Steps.{pushed_some}
use Rattle.agreement.specs.Seeing.{left_at}
use Rattle.agreement.proofs.seeing.all_left.Goals as goal

pub loop-out-preserved : goal.loop-out-preserved
loop-out-preserved c =
    pushed_some (left_at c.args.wiring.now c.args.header.now) c.as_slice-out-items.result.now c.loop-out.out-index
    c.out-item.result [] c.loop-out.left c.add_left.new.left
    (left_at c.args.wiring.now c.args.header.now c.out-item.result)
    c.loop-out-test.true c.out-item.is c.loop-out.invariant refl c.in_ok-add_left.ensures
