use Rattle.std.proofs.Common.{◌≡◌, ◌++◌, take}
use Rattle.of10_stats.specs.Spelling.{joined}
use Rattle.of10_stats.proofs.writing.write_texts.Given as goal

abbrev pub invariant-loop-text : goal.invariant-loop-text
invariant-loop-text l = l.out ≡ l.fn.out ++ joined (take l.text-index l.text-items)
