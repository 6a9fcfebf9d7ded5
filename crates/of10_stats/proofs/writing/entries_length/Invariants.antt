use Rattle.std.proofs.Common.{◌≡◌, take}
use Rattle.of10_stats.specs.Parts.{bytes_of}
use Rattle.of10_stats.proofs.writing.entries_length.Given as goal

abbrev pub invariant-loop-entry : goal.invariant-loop-entry
invariant-loop-entry l = l.total ≡ bytes_of (take l.entry-index l.entries)
