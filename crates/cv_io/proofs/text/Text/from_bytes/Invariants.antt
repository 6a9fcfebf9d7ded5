use Rattle.std.proofs.Common.{take}
use Rattle.cv_io.specs.Text.{IsAsciiText}
use Rattle.cv_io.proofs.text.Text.from_bytes.Given as goal

abbrev pub invariant-loop-at : goal.invariant-loop-at
invariant-loop-at l = IsAsciiText (take l.at l.byte-items)
