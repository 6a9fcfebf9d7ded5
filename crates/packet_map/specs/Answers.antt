-- What a member's table has for a header.
use Rattle.std.specs.Prelude.{◌≡◌, ◌+◌, ◌<◌, ◌^◌, true, false, Some, None}
use Rattle.of10_match.specs.Fields.{HeaderOf}
use Rattle.of10_actions.specs.Actions.{AreInRange}
use Rattle.policy_meaning.specs.Leaf.{best_entry, is_inside}
use Rattle.policy_meaning.specs.declared.leaf.LeafTable.{LeafTable}
use Rattle.packet_map.specs.Networks.{leaf_entry, leaf_table, no_levels}
use Rattle.packet_map.specs.declared.answer.Answer.{Answer}
use Rattle.packet_map.specs.declared.answer.Answer.TheVariants.{Outside, Miss, Entry}
use Rattle.packet_map.specs.declared.answer.Member.{Member}

-- the member's table with what its grant lets it see
abbrev pub table_of : Member → LeafTable
table_of m = leaf_table no_levels m.number m.grant.now m.table.now.table.entries

-- outside is exactly what the member's region and ports leave out; inside, the entry of the highest rank that holds the
-- header is met, and where none does it is a miss
abbrev pub Answers : Member → HeaderOf → Answer → Type 0
Answers m h Outside = is_inside (table_of m) h ≡ false
Answers m h Miss = (is_inside (table_of m) h ≡ true) × (best_entry (table_of m).entries h ≡ None)
Answers m h (Entry e) = (is_inside (table_of m) h ≡ true)
    × (best_entry (table_of m).entries h ≡ Some (leaf_entry no_levels m.number m.grant.now.ports e.now))

-- the numbers of the actions of the entry that is met are in their ranges, and its serial leaves room for the kind of
-- its leaf
abbrev pub HasInRange : Answer → Type 0
HasInRange Outside = Unit {0}
HasInRange Miss = Unit {0}
HasInRange (Entry e) = AreInRange e.now.actions × (2 + e.now.serial < 2 ^ 64)
