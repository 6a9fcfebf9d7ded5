use Rattle.std.proofs.Common.{◌≡◌, ◌++◌, drop, map}
use Rattle.policy_notes.specs.Showing.{printable}
use Rattle.policy_notes.proofs.showing.push_printable.Given as goal

abbrev pub invariant-loop-byte : goal.invariant-loop-byte
invariant-loop-byte l = l.text ++ map printable (drop l.byte-index l.bytes) ≡ l.initial.text ++ map printable l.bytes
