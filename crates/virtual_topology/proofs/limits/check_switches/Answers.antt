use Rattle.std.proofs.Common.{◌<◌, length, arith}
use Rattle.std.proofs.lemmas.Result.{err_from_is_err_and}
use Rattle.std.specs.List.{enumerate_from}
use Rattle.virtual_topology.specs.declared.fault.TopologyFault.TheVariants.{Memory}
use Rattle.virtual_topology.specs.Faults.{too_many_at}
use Rattle.virtual_topology.proofs.Checks.{ended, passed_on, stopped_at}
use Rattle.virtual_topology.proofs.Steps.{numbered_at}
use Rattle.std.proofs.lemmas.List.FromFn.{length-enumerate_from}
use Rattle.virtual_topology.proofs.limits.check_switches.Goals as goal

pub returns-in_err-check_switch : goal.returns-in_err-check_switch
returns-in_err-check_switch c =
    let p = err_from_is_err_and c.from_residual.result c.from_residual.ensures.1 in
    rw (p.1, p.2) (stopped_at Memory too_many_at (enumerate_from 0 c.args.switches.now) c.loop-number.number
    (c.loop-number.number, c.index-switches-number.result) _
    (numbered_at c.args.switches.now c.loop-number.number c.index-switches-number.result c.loop-number-test.true
    c.index-switches-number.is)
    (rw (← c.len.ensures) c.in_err-check_switch.ensures) c.loop-number.invariant)

pub loop-number-preserved : goal.loop-number-preserved
loop-number-preserved c =
    let lt : c.loop-number.number < length (enumerate_from 0 c.args.switches.now) =
    omega (arith, length-enumerate_from 0 c.args.switches.now, c.loop-number-test.true) in
    passed_on too_many_at (enumerate_from 0 c.args.switches.now) c.loop-number.number
    (c.loop-number.number, c.index-switches-number.result) lt
    (numbered_at c.args.switches.now c.loop-number.number c.index-switches-number.result c.loop-number-test.true
    c.index-switches-number.is)
    (rw (← c.len.ensures) c.in_ok-check_switch.ensures) c.loop-number.invariant

pub returns : goal.returns
returns c = ended too_many_at (enumerate_from 0 c.args.switches.now) c.loop-number.number
    (omega (arith, length-enumerate_from 0 c.args.switches.now, c.loop-number-test.false)) c.loop-number.invariant
