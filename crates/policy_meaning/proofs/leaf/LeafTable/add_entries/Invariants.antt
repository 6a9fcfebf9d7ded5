use Rattle.std.proofs.Common.{◌≡◌, ◌++◌, take}
use Rattle.std.specs.Prelude.{flat_map, map}
use Rattle.policy_meaning.specs.LeafRules.{in_cells, entry_rule}
use Rattle.policy_meaning.proofs.leaf.LeafTable.add_entries.Given as goal

abbrev pub invariant-loop-entry : goal.invariant-loop-entry
invariant-loop-entry l = l.rules ≡ l.fn.rules ++ flat_map (in_cells l.cells)
    (map (entry_rule l.self) (take l.entry-index l.entry-items))
