use Rattle.std.proofs.Common.{◌≡◌, take}
use Rattle.std.specs.Option.{option_copied}
use Rattle.switch_meaning.specs.Choosing.{chosen_entry}
use Rattle.switch_meaning.proofs.choosing.usable.Given as goal

-- the best of the entries that are gone over
abbrev pub invariant-loop-entry : goal.invariant-loop-entry
invariant-loop-entry l = option_copied l.best ≡ chosen_entry l.reading (take l.entry-index l.entry-items) l.header
