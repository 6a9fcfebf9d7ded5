use Rattle.std.proofs.Common.{◌≡◌, map, take}
use Rattle.rule_ancestry.specs.Holding.{id_of}
use Rattle.made_rules.proofs.plan.ids_of.Given as goal

abbrev pub invariant-loop-old : goal.invariant-loop-old
invariant-loop-old l = l.ids.items ≡ map id_of (take l.old-index l.olds)
