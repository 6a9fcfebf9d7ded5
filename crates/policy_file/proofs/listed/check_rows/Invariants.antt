use Rattle.std.proofs.Common.{◌≡◌, map, drop}
use Rattle.toml.specs.View.{table_view}
use Rattle.virtual_topology.specs.Faults.{first_answer}
use Rattle.policy_file.specs.Listed.{missing_row}
use Rattle.policy_file.specs.Shown.{shown_row}
use Rattle.policy_file.proofs.listed.check_rows.Given as goal

abbrev pub invariant-loop-row : goal.invariant-loop-row
invariant-loop-row l =
    let f = missing_row l.section (table_view l.table) in
    first_answer f (map shown_row (drop l.row-index l.rows)) ≡ first_answer f (map shown_row l.rows)
