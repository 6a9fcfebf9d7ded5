use Rattle.std.proofs.Common.{◌<◌, map, length, List, subst, arith}
use Rattle.std.proofs.lemmas.Result.{err_from_is_err_and}
use Rattle.virtual_topology.specs.declared.fault.TopologyFault.TheVariants.{Memory}
use Rattle.virtual_topology.specs.Faults.{first_answer, unlinked}
use Rattle.virtual_topology.specs.Rows.{Row}
use Rattle.virtual_topology.specs.Shown.{shown_row}
use Rattle.virtual_topology.proofs.Checks.{Wanted, next_item, passed_on, stopped_at}
use Rattle.virtual_topology.proofs.Steps.{mapped_at, as_many_mapped}
use Rattle.virtual_topology.proofs.check.check_ports.Goals as goal

pub returns-in_err-check_port : goal.returns-in_err-check_port
returns-in_err-check_port c =
    let p = err_from_is_err_and c.from_residual.result c.from_residual.ensures.1 in
    let xs = map shown_row c.rows-row-items.result.now in
    let i = c.loop-row.row-index in
    let lt : i < length xs =
    omega (arith, as_many_mapped shown_row c.rows-row-items.result.now, c.loop-row-test.true) in
    rw (p.1, p.2)
    (subst (λ (ys : List Row). Wanted Memory c.in_err-check_port.field-0.0
    (first_answer (unlinked c.args.used.now) ys)) c.rows-row-items.ensures
    (stopped_at Memory (unlinked c.args.used.now) xs i (shown_row c.row-item.result) _
    (next_item xs i _ lt (mapped_at shown_row c.rows-row-items.result.now i c.row-item.result c.loop-row-test.true
    c.row-item.is)) c.in_err-check_port.ensures c.loop-row.invariant))

pub loop-row-preserved : goal.loop-row-preserved
loop-row-preserved c =
    let xs = map shown_row c.rows-row-items.result.now in
    let i = c.loop-row.row-index in
    let lt : i < length xs =
    omega (arith, as_many_mapped shown_row c.rows-row-items.result.now, c.loop-row-test.true) in
    passed_on (unlinked c.args.used.now) xs i (shown_row c.row-item.result) lt
    (next_item xs i _ lt (mapped_at shown_row c.rows-row-items.result.now i c.row-item.result c.loop-row-test.true
    c.row-item.is)) c.in_ok-check_port.ensures c.loop-row.invariant
