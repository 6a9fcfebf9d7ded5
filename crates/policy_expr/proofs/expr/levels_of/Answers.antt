use Rattle.std.proofs.Common.{arith}
use Rattle.std.proofs.Math.Pow.{pow_mono}
use Rattle.policy_expr.proofs.expr.levels_of.Goals as goal

pub returns-else-bits-lt64 : goal.returns-else-bits-lt64
returns-else-bits-lt64 c = omega (arith, pow_mono {i = 64} {j = c.args.bits} (omega arith))
