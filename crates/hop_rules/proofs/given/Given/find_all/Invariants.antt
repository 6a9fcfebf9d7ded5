use Rattle.std.proofs.Common.{take}
use Rattle.hop_rules.specs.Handed.{AreFoundAt}
use Rattle.hop_rules.proofs.given.Given.find_all.Given as goal

abbrev pub invariant-loop-rule : goal.invariant-loop-rule
invariant-loop-rule l = AreFoundAt l.self.rules l.ids.items (take l.rule-index l.rules)
