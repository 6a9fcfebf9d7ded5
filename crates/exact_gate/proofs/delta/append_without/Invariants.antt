use Rattle.std.proofs.Common.{◌≡◌, ◌++◌, drop}
use Rattle.exact_gate.specs.Standing.{without}
use Rattle.exact_gate.proofs.delta.append_without.Given as goal

-- what was appended, and then what is appended of the entries that are left
abbrev pub invariant-loop-entry : goal.invariant-loop-entry
invariant-loop-entry l = l.list ++ without (drop l.entry-index l.entry-items) l.others
    ≡ l.initial.list ++ without l.entry-items l.others
