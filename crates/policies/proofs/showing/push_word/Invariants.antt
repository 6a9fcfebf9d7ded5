use Rattle.std.proofs.Common.{◌≡◌, ◌++◌, drop}
use Rattle.policies.specs.Showing.{shown}
use Rattle.policies.proofs.showing.push_word.Given as goal

abbrev pub invariant-loop-byte : goal.invariant-loop-byte
invariant-loop-byte l = l.text ++ shown (drop l.byte-index l.word) ≡ l.initial.text ++ shown l.word
