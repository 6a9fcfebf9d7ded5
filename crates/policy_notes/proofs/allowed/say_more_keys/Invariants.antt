use Rattle.std.proofs.Common.{◌≡◌, ◌++◌, drop, map}
use Rattle.policy_file.specs.Shown.{shown_row}
use Rattle.policy_notes.specs.Allowed.{more_keys}
use Rattle.policy_notes.proofs.allowed.say_more_keys.Given as goal

abbrev pub invariant-loop-row : goal.invariant-loop-row
invariant-loop-row l =
    l.text ++ more_keys l.version (map shown_row (drop l.row-index l.rows))
    ≡ l.initial.text ++ more_keys l.version (map shown_row l.rows)
