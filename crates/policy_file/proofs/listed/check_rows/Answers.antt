use Rattle.std.proofs.Common.{◌+◌, drop}
use Rattle.std.proofs.lemmas.List.{drop_more}
use Rattle.std.proofs.lemmas.Result.{err_from_is_err_and}
use Rattle.toml.specs.View.{table_view}
use Rattle.policies.specs.declared.fault.PolicyFault.TheVariants.{Memory}
use Rattle.policy_file.specs.Listed.{missing_row}
use Rattle.policy_file.specs.Shown.{shown_row}
use Rattle.policy_file.proofs.Passing.{passed_first, stopped_first}
use Rattle.policy_file.proofs.listed.check_rows.Goals as goal

pub returns-in_err-check_row : goal.returns-in_err-check_row
returns-in_err-check_row c =
    let p = err_from_is_err_and c.from_residual.result c.from_residual.ensures.1 in
    rw (p.1, p.2) (stopped_first Memory shown_row (missing_row c.args.section (table_view c.args.table.now))
    (drop c.loop-row.row-index c.args.rows.now) (drop (c.loop-row.row-index + 1) c.args.rows.now) _ _ _
    (drop_more c.args.rows.now c.loop-row.row-index _ c.loop-row-test.true) c.in_err-check_row.ensures
    c.loop-row.invariant)

pub loop-row-preserved : goal.loop-row-preserved
loop-row-preserved c =
    passed_first shown_row (missing_row c.args.section (table_view c.args.table.now))
    (drop c.loop-row.row-index c.args.rows.now) (drop (c.loop-row.row-index + 1) c.args.rows.now) _ _
    (drop_more c.args.rows.now c.loop-row.row-index _ c.loop-row-test.true) c.in_ok-check_row.ensures
    c.loop-row.invariant
