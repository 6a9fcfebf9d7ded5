use Rattle.std.proofs.Common.{◌≡◌, map, drop}
use Rattle.std.specs.List.{list_any}
use Rattle.policy_file.specs.Listed.{is_row}
use Rattle.policy_file.specs.Shown.{shown_row}
use Rattle.policy_file.proofs.listed.is_listed.Given as goal

abbrev pub invariant-loop-row : goal.invariant-loop-row
invariant-loop-row l = list_any (is_row l.version l.key) (map shown_row (drop l.row-index l.rows))
    ≡ list_any (is_row l.version l.key) (map shown_row l.rows)
