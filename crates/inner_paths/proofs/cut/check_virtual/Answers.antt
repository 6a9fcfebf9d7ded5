use Rattle.std.proofs.Common.{◌<◌, ◌∙◌, length, List, ap, subst, sym, arith}
use Rattle.std.proofs.lemmas.Result.{err_from_is_err_and}
use Rattle.std.proofs.lemmas.List.FromFn.{length-enumerate_from}
use Rattle.std.specs.List.{enumerate_from}
use Rattle.virtual_topology.specs.declared.plan.SwitchItem.{SwitchItem}
use Rattle.virtual_topology.specs.Faults.{first_answer}
use Rattle.virtual_topology.proofs.Checks.{Wanted, ended, passed_on, stopped_at}
use Rattle.virtual_topology.proofs.Steps.{numbered_at}
use Rattle.inner_paths.specs.declared.fault.PathFault.TheVariants.{Memory}
use Rattle.inner_paths.specs.Cuts.{cut_from}
use Rattle.virtual_topology.specs.declared.plan.TopologyPlan.{TopologyPlan}
use Rattle.inner_paths.proofs.cut.check_virtual.Goals as goal

pub returns-in_err-check_from : goal.returns-in_err-check_from
returns-in_err-check_from c =
    let p = err_from_is_err_and c.from_residual.result c.from_residual.ensures.1 in
    let xs = c.as_slice-switches.result.now in
    rw (p.1, p.2)
    (subst (λ (ys : List SwitchItem). Wanted Memory c.in_err-check_from.field-0.0
    (first_answer (cut_from c.args.topology.now c.args.v) (enumerate_from 0 ys)))
    (c.as_slice-switches.ensures ∙ ap (λ (plan : TopologyPlan). plan.switches) c.plan.ensures.plan)
    (stopped_at Memory (cut_from c.args.topology.now c.args.v) (enumerate_from 0 xs) c.loop-from.from
    (c.loop-from.from, c.index-switches-from.result) _
    (numbered_at xs c.loop-from.from c.index-switches-from.result c.loop-from-test.true c.index-switches-from.is)
    c.in_err-check_from.ensures c.loop-from.invariant))

pub loop-from-preserved : goal.loop-from-preserved
loop-from-preserved c =
    let xs = c.as_slice-switches.result.now in
    let lt : c.loop-from.from < length (enumerate_from 0 xs) =
    omega (arith, length-enumerate_from 0 xs, c.loop-from-test.true) in
    passed_on (cut_from c.args.topology.now c.args.v) (enumerate_from 0 xs) c.loop-from.from
    (c.loop-from.from, c.index-switches-from.result) lt
    (numbered_at xs c.loop-from.from c.index-switches-from.result c.loop-from-test.true c.index-switches-from.is)
    c.in_ok-check_from.ensures c.loop-from.invariant

pub returns : goal.returns
returns c =
    let xs = c.as_slice-switches.result.now in
    sym (ap (λ (ys : List SwitchItem). first_answer (cut_from c.args.topology.now c.args.v) (enumerate_from 0 ys))
    (c.as_slice-switches.ensures ∙ ap (λ (plan : TopologyPlan). plan.switches) c.plan.ensures.plan))
    ∙ ended (cut_from c.args.topology.now c.args.v) (enumerate_from 0 xs) c.loop-from.from
    (omega (arith, length-enumerate_from 0 xs, c.loop-from-test.false)) c.loop-from.invariant
