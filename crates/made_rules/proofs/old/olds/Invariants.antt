use Rattle.std.proofs.Common.{◌≡◌, ◌++◌, List, map, take}
use Rattle.std.specs.Prelude.{IsPermutation}
use Rattle.rule_ancestry.specs.Holding.{Held, id_of}
use Rattle.made_rules.specs.Rules.{rules_in}
use Rattle.made_rules.specs.declared.made.Made.{Made}
use Rattle.made_rules.proofs.old.olds.Given as goal

abbrev pub invariant-loop-id : goal.invariant-loop-id
invariant-loop-id l = (items rest : List (Held Made)) → map id_of items ≡ l.ids → IsPermutation l.store (items ++ rest)
    → l.olds.items ≡ rules_in (take l.id-index items)
