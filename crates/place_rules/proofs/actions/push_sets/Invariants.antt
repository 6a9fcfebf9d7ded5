use Rattle.std.proofs.Common.{◌≡◌, ◌++◌, drop}
use Rattle.switch_meaning.specs.Placing.{sets_after}
use Rattle.place_rules.proofs.actions.push_sets.Given as goal

-- what was appended, and then the sets of the fields that are left
abbrev pub invariant-loop-field : goal.invariant-loop-field
invariant-loop-field l = l.actions ++ sets_after (drop l.field l.done) (drop l.field l.set)
    ≡ l.initial.actions ++ sets_after l.done l.set
