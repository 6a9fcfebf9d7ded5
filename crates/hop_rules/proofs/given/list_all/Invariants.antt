use Rattle.std.proofs.Common.{◌≡◌, ◌≤◌, ◌+◌, ◌++◌, List, length, map, take}
use Rattle.std.specs.Prelude.{IsPermutation, filter_map}
use Rattle.policy_meaning.specs.declared.rule.Rule.{Rule}
use Rattle.rule_ancestry.specs.Holding.{Held, id_of}
use Rattle.hop_rules.specs.Handed.{listed}
use Rattle.hop_rules.proofs.given.list_all.Given as goal

abbrev pub invariant-loop-id : goal.invariant-loop-id
invariant-loop-id l = record {
  room : length l.ids ≤ l.index.room + l.id-index;
  shown : (coming kept : List (Held Rule)) → IsPermutation l.store (coming ++ kept) → map id_of coming ≡ l.ids
      → IsPermutation l.fn.index.items (filter_map (listed l.exits) kept) →
      IsPermutation l.index.items (filter_map (listed l.exits) (kept ++ take l.id-index coming));
}
