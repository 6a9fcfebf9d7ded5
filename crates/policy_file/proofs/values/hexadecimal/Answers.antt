use Rattle.std.proofs.Common.{arith}
use Rattle.std.proofs.Math.Nat.{pow-le-pow_right}
use Rattle.policy_file.proofs.values.hexadecimal.Goals as goal

pub overflow_mul-number : goal.overflow_mul-number
overflow_mul-number c =
    let low = pow-le-pow_right {n = 16} (omega arith) {i = c.loop-byte.byte-index} {j = 15} (omega arith) in
    omega (arith, low, c.loop-byte.invariant.1)

pub overflow_add-number : goal.overflow_add-number
overflow_add-number c =
    let low = pow-le-pow_right {n = 16} (omega arith) {i = c.loop-byte.byte-index} {j = 15} (omega arith) in
    omega (arith, low, c.loop-byte.invariant.1, c.in-Some.ensures.below, c.from.ensures)
