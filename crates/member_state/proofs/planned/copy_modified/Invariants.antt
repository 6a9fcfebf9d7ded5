use Rattle.std.proofs.Common.{◌≡◌, ◌++◌, drop}
use Rattle.member_state.proofs.planned.copy_modified.Given as goal

-- what is there, and what is left
abbrev pub invariant-loop-one : goal.invariant-loop-one
invariant-loop-one l = l.copied ++ drop l.one-index l.modified ≡ l.modified
