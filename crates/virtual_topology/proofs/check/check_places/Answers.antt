use Rattle.std.proofs.Common.{◌<◌, map, length, List, subst, arith}
use Rattle.std.proofs.lemmas.Result.{err_from_is_err_and}
use Rattle.virtual_topology.specs.declared.fault.TopologyFault.TheVariants.{Memory}
use Rattle.virtual_topology.specs.Faults.{first_answer, unknown_place}
use Rattle.virtual_topology.specs.Places.{PlaceUse}
use Rattle.virtual_topology.specs.Shown.{shown}
use Rattle.virtual_topology.proofs.Checks.{Wanted, next_item, passed_on, stopped_at}
use Rattle.virtual_topology.proofs.Steps.{mapped_at, as_many_mapped}
use Rattle.virtual_topology.proofs.check.check_places.Goals as goal

pub returns-in_err-check_place : goal.returns-in_err-check_place
returns-in_err-check_place c =
    let p = err_from_is_err_and c.from_residual.result c.from_residual.ensures.1 in
    let xs = map shown c.list-place-items.result.now in
    let i = c.loop-place.place-index in
    let lt : i < length xs =
    omega (arith, as_many_mapped shown c.list-place-items.result.now, c.loop-place-test.true) in
    rw (p.1, p.2)
    (subst (λ (ys : List PlaceUse). Wanted Memory c.in_err-check_place.field-0.0
    (first_answer (unknown_place c.args.known.now) ys)) c.list-place-items.ensures
    (stopped_at Memory (unknown_place c.args.known.now) xs i (shown c.place-item.result) _
    (next_item xs i _ lt (mapped_at shown c.list-place-items.result.now i c.place-item.result c.loop-place-test.true
    c.place-item.is)) c.in_err-check_place.ensures c.loop-place.invariant))

pub loop-place-preserved : goal.loop-place-preserved
loop-place-preserved c =
    let xs = map shown c.list-place-items.result.now in
    let i = c.loop-place.place-index in
    let lt : i < length xs =
    omega (arith, as_many_mapped shown c.list-place-items.result.now, c.loop-place-test.true) in
    passed_on (unknown_place c.args.known.now) xs i (shown c.place-item.result) lt
    (next_item xs i _ lt (mapped_at shown c.list-place-items.result.now i c.place-item.result c.loop-place-test.true
    c.place-item.is)) c.in_ok-check_place.ensures c.loop-place.invariant
