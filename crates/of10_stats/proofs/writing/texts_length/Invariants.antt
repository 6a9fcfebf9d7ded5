use Rattle.std.proofs.Common.{◌≡◌, length, take}
use Rattle.of10_stats.specs.Spelling.{joined}
use Rattle.of10_stats.proofs.writing.texts_length.Given as goal

abbrev pub invariant-loop-text : goal.invariant-loop-text
invariant-loop-text l = l.total ≡ length (joined (take l.text-index l.text-items))
