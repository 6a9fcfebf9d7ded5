use Rattle.std.proofs.Common.{◌<◌, length, map, arith}
use Rattle.std.proofs.lemmas.List.FromFn.{length-enumerate_from}
use Rattle.std.proofs.lemmas.Result.{err_from_is_err_and}
use Rattle.std.specs.List.{enumerate_from}
use Rattle.toml.specs.View.{view}
use Rattle.virtual_topology.proofs.Checks.{ended, passed_on, stopped_at}
use Rattle.virtual_topology.proofs.Steps.{as_many_mapped, mapped_at, numbered_at}
use Rattle.policies.specs.declared.fault.PolicyFault.TheVariants.{Memory}
use Rattle.policy_file.specs.Listed.{in_item, unlisted}
use Rattle.policy_file.proofs.listed.check_items_listed.Goals as goal

pub returns-in_err-check_item_listed : goal.returns-in_err-check_item_listed
returns-in_err-check_item_listed c =
    let p = err_from_is_err_and c.from_residual.result c.from_residual.ensures.1 in
    let xs = map view c.args.items.now in
    let i = c.loop-number.number in
    let x = c.index-items-number.result in
    let lt : i < length xs = omega (arith, as_many_mapped view c.args.items.now, c.loop-number-test.true) in
    rw (p.1, p.2) (stopped_at Memory (in_item (unlisted c.args.version) c.args.kind) (enumerate_from 0 xs) i (i, view x)
    _
    (numbered_at xs i (view x) lt (mapped_at view c.args.items.now i x c.loop-number-test.true c.index-items-number.is))
    c.in_err-check_item_listed.ensures c.loop-number.invariant)

pub loop-number-preserved : goal.loop-number-preserved
loop-number-preserved c =
    let xs = map view c.args.items.now in
    let i = c.loop-number.number in
    let x = c.index-items-number.result in
    let lt : i < length xs = omega (arith, as_many_mapped view c.args.items.now, c.loop-number-test.true) in
    let within : i < length (enumerate_from 0 xs) = omega (arith, length-enumerate_from 0 xs) in
    passed_on (in_item (unlisted c.args.version) c.args.kind) (enumerate_from 0 xs) i (i, view x) within
    (numbered_at xs i (view x) lt (mapped_at view c.args.items.now i x c.loop-number-test.true c.index-items-number.is))
    c.in_ok-check_item_listed.ensures c.loop-number.invariant

pub returns : goal.returns
returns c =
    let xs = map view c.args.items.now in
    ended (in_item (unlisted c.args.version) c.args.kind) (enumerate_from 0 xs) c.loop-number.number
    (omega (arith, length-enumerate_from 0 xs, as_many_mapped view c.args.items.now, c.loop-number-test.false))
    c.loop-number.invariant
