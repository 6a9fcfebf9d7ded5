use Rattle.std.proofs.Common.{◌<◌, length, arith}
use Rattle.std.proofs.lemmas.Result.{err_from_is_err_and}
use Rattle.std.specs.List.{enumerate_from}
use Rattle.virtual_topology.specs.declared.fault.TopologyFault.TheVariants.{Memory}
use Rattle.virtual_topology.specs.Faults.{mixed_item}
use Rattle.virtual_topology.proofs.Checks.{ended, passed_on, stopped_at}
use Rattle.virtual_topology.proofs.Steps.{numbered_at}
use Rattle.std.proofs.lemmas.List.FromFn.{length-enumerate_from}
use Rattle.virtual_topology.proofs.mixed.check_mixed.Goals as goal

pub returns-in_err-check_item : goal.returns-in_err-check_item
returns-in_err-check_item c =
    let p = err_from_is_err_and c.from_residual-in_err-check_item.result c.from_residual-in_err-check_item.ensures.1 in
    rw (p.1, p.2) (stopped_at Memory (mixed_item c.args.links.now c.args.outside.now)
    (enumerate_from 0 c.args.virtuals.now) c.loop-number.number
    (c.loop-number.number, c.index-virtuals-number.result) _
    (numbered_at c.args.virtuals.now c.loop-number.number c.index-virtuals-number.result c.loop-number-test.true
    c.index-virtuals-number.is)
    c.in_err-check_item.ensures c.loop-number.invariant)

pub loop-number-preserved : goal.loop-number-preserved
loop-number-preserved c =
    let lt : c.loop-number.number < length (enumerate_from 0 c.args.virtuals.now) =
    omega (arith, length-enumerate_from 0 c.args.virtuals.now, c.loop-number-test.true) in
    passed_on (mixed_item c.args.links.now c.args.outside.now) (enumerate_from 0 c.args.virtuals.now)
    c.loop-number.number (c.loop-number.number, c.index-virtuals-number.result) lt
    (numbered_at c.args.virtuals.now c.loop-number.number c.index-virtuals-number.result c.loop-number-test.true
    c.index-virtuals-number.is)
    c.in_ok-check_item.ensures c.loop-number.invariant

pub returns : goal.returns
returns c = ended (mixed_item c.args.links.now c.args.outside.now) (enumerate_from 0 c.args.virtuals.now)
    c.loop-number.number (omega (arith, length-enumerate_from 0 c.args.virtuals.now, c.loop-number-test.false))
    c.loop-number.invariant
