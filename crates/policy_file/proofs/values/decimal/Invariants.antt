use Rattle.std.proofs.Common.{◌≡◌, ◌<◌, ◌^◌, drop}
use Rattle.policy_file.specs.Values.{digits_after, decimal_digit}
use Rattle.policy_file.proofs.values.decimal.Given as goal

abbrev pub invariant-loop-byte : goal.invariant-loop-byte
invariant-loop-byte l =
    (digits_after 10 decimal_digit l.number (drop l.byte-index l.digits) ≡ digits_after 10 decimal_digit 0 l.digits)
    × (l.number < 10 ^ l.byte-index)
