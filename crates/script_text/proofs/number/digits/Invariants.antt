use Rattle.std.proofs.Common.{◌≡◌, ◌<◌, ℕ, drop, get_or}
use Rattle.std.specs.Int.{IsInRange}
use Rattle.script_text.specs.Numbers.{value_after, value_of}
use Rattle.script_text.proofs.number.digits.Given as goal

abbrev pub invariant-loop-byte : goal.invariant-loop-byte
invariant-loop-byte l = record {
  digits : (k : ℕ) → k < l.byte-index → IsInRange 48 57 (get_or l.text k 0);
  so_far : value_after l.value (drop l.byte-index l.text) ≡ value_of l.text;
}
