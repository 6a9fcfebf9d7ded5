use Rattle.std.proofs.Common.{◌≡◌, ◌++◌, take}
use Rattle.std.specs.List.{flat_map}
use Rattle.explain_text.specs.Findings.{of_hop}
use Rattle.explain_text.proofs.answering.add_hops.Given as goal

abbrev pub invariant-loop-hop : goal.invariant-loop-hop
invariant-loop-hop l = l.answer ≡ l.fn.answer ++ flat_map of_hop (take l.hop-index l.hops)
