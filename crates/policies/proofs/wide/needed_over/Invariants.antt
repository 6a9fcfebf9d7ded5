use Rattle.policies.specs.Widths.{AreWidths}
use Rattle.policies.proofs.wide.needed_over.Given as goal

abbrev pub invariant-loop-hop : goal.invariant-loop-hop
invariant-loop-hop l = AreWidths l.topology l.sizes l._hop l.needed.items
