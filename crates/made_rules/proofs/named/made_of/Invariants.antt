use Rattle.std.proofs.Common.{take}
use Rattle.made_rules.proofs.Naming.{AreMadeOf}
use Rattle.made_rules.proofs.named.made_of.Given as goal

abbrev pub invariant-loop-origin : goal.invariant-loop-origin
invariant-loop-origin l = AreMadeOf l.store (take l.origin-index l.origins) l.ids.items
