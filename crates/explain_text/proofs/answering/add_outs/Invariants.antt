use Rattle.std.proofs.Common.{◌≡◌, ◌++◌, take}
use Rattle.std.specs.Prelude.{filter_map}
use Rattle.explain_text.specs.Findings.{of_out}
use Rattle.explain_text.proofs.answering.add_outs.Given as goal

abbrev pub invariant-loop-out : goal.invariant-loop-out
invariant-loop-out l = l.answer ≡ l.fn.answer ++ filter_map (of_out l.topology) (take l.out-index l.outs)
