use Rattle.std.proofs.Common.{◌≡◌, ◌++◌, map, take}
use Rattle.explain_text.specs.Findings.{of_told}
use Rattle.explain_text.proofs.answering.add_told.Given as goal

abbrev pub invariant-loop-one : goal.invariant-loop-one
invariant-loop-one l = l.answer ≡ l.fn.answer ++ map of_told (take l.one-index l.told)
