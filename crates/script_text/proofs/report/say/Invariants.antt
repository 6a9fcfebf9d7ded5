use Rattle.std.proofs.Common.{◌≡◌, ◌++◌, take}
use Rattle.script_text.proofs.report.say.Given as goal

abbrev pub invariant-loop-byte : goal.invariant-loop-byte
invariant-loop-byte l = l.line ≡ l.fn.line ++ take l.byte-index l.byte-items
