use Rattle.std.proofs.Common.{◌≡◌, ◌+◌, ◌*◌, ◌-◌, ◌≤◌, get_or, sym, arith}
use Rattle.script_text.proofs.Digits.{all_digits, no_digit_at, too_large}
use Rattle.script_text.proofs.number.digits.Goals as goal

pub returns-then-byte-lt48 : goal.returns-then-byte-lt48
returns-then-byte-lt48 c =
    sym (no_digit_at c.args.text.now c.loop-byte.byte-index c.loop-byte-test.true
    (λ r. omega (arith, r.0, c.if-byte-lt48.true)))

pub returns-then-byte-gt57 : goal.returns-then-byte-gt57
returns-then-byte-gt57 c =
    sym (no_digit_at c.args.text.now c.loop-byte.byte-index c.loop-byte-test.true
    (λ r. omega (arith, r.1, c.if-byte-gt57.true)))

pub returns-then-value-digit : goal.returns-then-value-digit
returns-then-value-digit c =
    sym (too_large c.args.text.now c.loop-byte.value c.loop-byte.byte-index c.loop-byte-test.true
    c.loop-byte.invariant.so_far
    (omega (arith, c.if-value-digit.true, c.from-digit.ensures, c.if-byte-lt48.false, c.if-byte-gt57.false)))

pub returns : goal.returns
returns c =
    sym (all_digits c.args.text.now c.loop-byte.value c.loop-byte.byte-index c.loop-byte.invariant.digits
    c.loop-byte-test.false (omega (arith, c.loop-byte.auto.value-fits)) c.loop-byte.invariant.so_far)
