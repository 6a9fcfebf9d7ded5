use Rattle.std.proofs.Common.{◌≡◌, ◌≤◌, ◌+◌, ◌++◌, List, length, map, take}
use Rattle.std.specs.Prelude.{IsPermutation, filter_map}
use Rattle.policy_meaning.specs.declared.rule.Rule.{Rule}
use Rattle.rule_ancestry.specs.Holding.{Held, id_of}
use Rattle.made_rules.specs.Rules.{rules_in}
use Rattle.hop_rules.specs.Nodes.{found}
use Rattle.hop_rules.proofs.node.show_all.Given as goal

abbrev pub invariant-loop-id : goal.invariant-loop-id
invariant-loop-id l = record {
  room : length l.ids ≤ l.index.room + l.id-index;
  shown : (coming kept : List (Held Rule)) → IsPermutation (rules_in l.store) (coming ++ kept)
      → map id_of coming ≡ l.ids → IsPermutation l.fn.index.items (filter_map found kept) →
      IsPermutation l.index.items (filter_map found (kept ++ take l.id-index coming));
}
