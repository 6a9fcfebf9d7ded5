use Rattle.std.proofs.Common.{◌≡◌, ◌<◌, ◌^◌, drop}
use Rattle.policy_file.specs.Values.{digits_after, digit}
use Rattle.policy_file.proofs.values.hexadecimal.Given as goal

abbrev pub invariant-loop-byte : goal.invariant-loop-byte
invariant-loop-byte l = (digits_after 16 digit l.number (drop l.byte-index l.digits) ≡ digits_after 16 digit 0 l.digits)
    × (l.number < 16 ^ l.byte-index)
