use Rattle.std.proofs.Common.{◌≡◌, Option, List, take}
use Rattle.std.specs.Prelude.{IsPermutation, filter, filter_map}
use Rattle.match_index.specs.declared.item.Item.{Item}
use Rattle.rule_ancestry.specs.Holding.{Held, is_outside}
use Rattle.policy_meaning.specs.declared.rule.Rule.{Rule}
use Rattle.hop_rules.specs.Items.{IsNumbered}
use Rattle.hop_rules.proofs.listing.hide.Given as goal

abbrev pub invariant-loop-id : goal.invariant-loop-id
invariant-loop-id l = record {
  items : (shown : Held Rule → Option Item) → IsNumbered shown → (rules : List (Held Rule))
      → IsPermutation l.fn.index.items (filter_map shown rules) →
      IsPermutation l.index.items (filter_map shown (filter (is_outside (take l.id-index l.ids)) rules));
  room : l.index.room ≡ l.fn.index.room;
}
