use Rattle.std.proofs.Common.{◌≡◌}
use Rattle.std.specs.List.{AllByRecursion}
use Rattle.hop_rules.specs.Turns.{no_turn}
use Rattle.hop_rules.specs.declared.node.Turn.{Turn}
use Rattle.hop_rules.proofs.parts.still.Given as goal

abbrev pub invariant-loop-node : goal.invariant-loop-node
invariant-loop-node l = AllByRecursion (λ (t : Turn). t ≡ no_turn) l.turns.items
