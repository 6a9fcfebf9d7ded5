-- The rules of a table whose entries set no field and have no tail.
use Rattle.std.proofs.Common.{◌≡◌, ℕ, Bool, true, false, List, [], ◌∷◌, refl, subst}
use Rattle.std.specs.Prelude.{if◌then◌else◌, map}
use Rattle.std.specs.List.{AllByRecursion}
use Rattle.policy_meaning.specs.LeafRules.{entry_rule, miss_rule, outside_rule, cells, in_cells, has_outside}
use Rattle.policy_meaning.specs.LeafRules.{leaf_rules, rule_met}
use Rattle.policy_meaning.specs.CentralFact.{ArePlain, IsPlainRule}
use Rattle.policy_meaning.specs.declared.leaf.LeafEntry.{LeafEntry}
use Rattle.policy_meaning.specs.declared.leaf.LeafTable.{LeafTable}
use Rattle.policy_meaning.specs.declared.rule.Rule.{Rule}
use Rattle.policy_meaning.proofs.Lists.{all-each, all-append, all-mapped, all-flat_map, all-filter_map}
use Rattle.policy_meaning.proofs.Meeting.{some_met}
use Rattle.policy_meaning.proofs.Cells.{narrowed}

abbrev PlainEntry : LeafEntry → Type 0
PlainEntry e = ArePlain e.effects.outs e.effects.tail

module _ (ports : List ℕ) (t : LeafTable) where
  placed-plain : (a : Rule) → IsPlainRule a → AllByRecursion IsPlainRule (in_cells (cells ports t) a)
  placed-plain a p =
      all-filter_map (λ m. Unit {0}) IsPlainRule (rule_met a) (cells ports t)
      (λ n y e _. let q = some_met (narrowed a) a.m n y e in
      subst IsPlainRule q.1 (record { sets = p.sets; ends = p.ends }))
      (all-each (λ m. Unit {0}) (cells ports t) (λ m. tt))

  miss-plain : (b : Bool) → t.misses ≡ b → IsPlainRule (miss_rule t)
  miss-plain true e = record { sets = rw e (refl, tt); ends = refl }
  miss-plain false e = record { sets = rw e tt; ends = refl }

  outer-plain : (b : Bool) → AllByRecursion IsPlainRule (if b then outside_rule t ∷ [] else [])
  outer-plain true = (record { sets = tt; ends = refl }, tt)
  outer-plain false = tt

  pub rules-plain : AllByRecursion PlainEntry t.entries → AllByRecursion IsPlainRule (leaf_rules ports t)
  rules-plain p =
      all-append IsPlainRule (if has_outside ports t then outside_rule t ∷ [] else []) _
      (outer-plain (has_outside ports t))
      (all-flat_map IsPlainRule IsPlainRule (in_cells (cells ports t)) (miss_rule t ∷ map (entry_rule t) t.entries)
      placed-plain (
        miss-plain t.misses refl,
        all-mapped PlainEntry IsPlainRule (entry_rule t) t.entries
            (λ e q. record { sets = q.sets; ends = q.ends }) p,
      ))
