use Rattle.std.proofs.Common.{◌<◌, length, arith}
use Rattle.std.proofs.lemmas.Result.{err_from_is_err_and}
use Rattle.std.specs.List.{enumerate_from}
use Rattle.policies.specs.declared.fault.PolicyFault.TheVariants.{Memory}
use Rattle.policies.specs.Widths.{number_at, too_wide_at}
use Rattle.virtual_topology.proofs.Checks.{ended, passed_on, stopped_at}
use Rattle.virtual_topology.proofs.Steps.{numbered_at}
use Rattle.std.proofs.lemmas.List.FromFn.{length-enumerate_from}
use Rattle.policies.proofs.wide.check_each.Goals as goal

pub returns-in_err-check_width : goal.returns-in_err-check_width
returns-in_err-check_width c =
    let p = err_from_is_err_and c.from_residual.result c.from_residual.ensures.1 in
    rw (p.1, p.2) (stopped_at Memory (too_wide_at (number_at c.args.needed.now)) (enumerate_from 0 c.args.virtuals.now)
    c.loop-v.v (c.loop-v.v, c.index-virtuals-v.result) _
    (numbered_at c.args.virtuals.now c.loop-v.v c.index-virtuals-v.result c.loop-v-test.true c.index-virtuals-v.is)
    (rw (← c.number_at.ensures) c.in_err-check_width.ensures) c.loop-v.invariant)

pub loop-v-preserved : goal.loop-v-preserved
loop-v-preserved c =
    let lt : c.loop-v.v < length (enumerate_from 0 c.args.virtuals.now) =
    omega (arith, length-enumerate_from 0 c.args.virtuals.now, c.loop-v-test.true) in
    passed_on (too_wide_at (number_at c.args.needed.now)) (enumerate_from 0 c.args.virtuals.now) c.loop-v.v
    (c.loop-v.v, c.index-virtuals-v.result) lt
    (numbered_at c.args.virtuals.now c.loop-v.v c.index-virtuals-v.result c.loop-v-test.true c.index-virtuals-v.is)
    (rw (← c.number_at.ensures) c.in_ok-check_width.ensures) c.loop-v.invariant

pub returns : goal.returns
returns c = ended (too_wide_at (number_at c.args.needed.now)) (enumerate_from 0 c.args.virtuals.now) c.loop-v.v
    (omega (arith, length-enumerate_from 0 c.args.virtuals.now, c.loop-v-test.false)) c.loop-v.invariant
