use Rattle.std.proofs.Common.{◌<◌, ◌∙◌, length, List, ap, subst, sym, arith}
use Rattle.std.proofs.lemmas.Result.{err_from_is_err_and}
use Rattle.std.proofs.lemmas.List.FromFn.{length-enumerate_from}
use Rattle.std.specs.List.{enumerate_from}
use Rattle.virtual_topology.specs.declared.plan.SwitchItem.{SwitchItem}
use Rattle.virtual_topology.specs.Faults.{first_answer}
use Rattle.virtual_topology.proofs.Checks.{Wanted, ended, passed_on, stopped_at}
use Rattle.virtual_topology.proofs.Steps.{numbered_at}
use Rattle.inner_paths.specs.declared.fault.PathFault.TheVariants.{Memory}
use Rattle.inner_paths.specs.Cuts.{cut_between}
use Rattle.virtual_topology.specs.declared.plan.TopologyPlan.{TopologyPlan}
use Rattle.inner_paths.proofs.cut.check_from.Goals as goal

pub returns-in_err-check_pair : goal.returns-in_err-check_pair
returns-in_err-check_pair c =
    let p = err_from_is_err_and c.from_residual.result c.from_residual.ensures.1 in
    let xs = c.as_slice-switches.result.now in
    rw (p.1, p.2)
    (subst (λ (ys : List SwitchItem). Wanted Memory c.in_err-check_pair.field-0.0
    (first_answer (cut_between c.args.topology.now c.args.v (c.args.from, c.args.from_item.now))
    (enumerate_from 0 ys))) (c.as_slice-switches.ensures
    ∙ ap (λ (plan : TopologyPlan). plan.switches) c.plan.ensures.plan)
    (stopped_at Memory (cut_between c.args.topology.now c.args.v (c.args.from, c.args.from_item.now))
    (enumerate_from 0 xs) c.loop-to.to (c.loop-to.to, c.index-switches-to.result) _
    (numbered_at xs c.loop-to.to c.index-switches-to.result c.loop-to-test.true c.index-switches-to.is)
    c.in_err-check_pair.ensures c.loop-to.invariant))

pub loop-to-preserved : goal.loop-to-preserved
loop-to-preserved c =
    let xs = c.as_slice-switches.result.now in
    let lt : c.loop-to.to < length (enumerate_from 0 xs) =
    omega (arith, length-enumerate_from 0 xs, c.loop-to-test.true) in
    passed_on (cut_between c.args.topology.now c.args.v (c.args.from, c.args.from_item.now)) (enumerate_from 0 xs)
    c.loop-to.to (c.loop-to.to, c.index-switches-to.result) lt
    (numbered_at xs c.loop-to.to c.index-switches-to.result c.loop-to-test.true c.index-switches-to.is)
    c.in_ok-check_pair.ensures c.loop-to.invariant

pub returns : goal.returns
returns c =
    let xs = c.as_slice-switches.result.now in
    sym (ap (λ (ys : List SwitchItem). first_answer
    (cut_between c.args.topology.now c.args.v (c.args.from, c.args.from_item.now)) (enumerate_from 0 ys))
    (c.as_slice-switches.ensures ∙ ap (λ (plan : TopologyPlan). plan.switches) c.plan.ensures.plan))
    ∙ ended (cut_between c.args.topology.now c.args.v (c.args.from, c.args.from_item.now)) (enumerate_from 0 xs)
    c.loop-to.to (omega (arith, length-enumerate_from 0 xs, c.loop-to-test.false)) c.loop-to.invariant
