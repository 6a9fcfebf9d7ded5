use Rattle.std.proofs.Common.{◌≡◌, take}
use Rattle.std.specs.Option.{option_copied}
use Rattle.policy_meaning.specs.Leaf.{best_entry as best_entry_of}
use Rattle.policy_meaning.proofs.leaf.LeafTable.best_entry.Given as goal

abbrev pub invariant-loop-entry : goal.invariant-loop-entry
invariant-loop-entry l = option_copied l.best ≡ best_entry_of (take l.entry-index l.entry-items) l.header
