use Rattle.std.proofs.Common.{◌≡◌, ◌++◌, drop}
use Rattle.switch_meaning.specs.Batches.{missing}
use Rattle.told_batches.proofs.between.missing.Given as goal

-- what was found missing, and then what is missing of the entries that are left
abbrev pub invariant-loop-entry : goal.invariant-loop-entry
invariant-loop-entry l = l.left ++ missing l.fn.other (drop l.entry-index l.entry-items) ≡ missing l.fn.other l.table
