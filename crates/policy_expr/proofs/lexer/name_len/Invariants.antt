use Rattle.std.proofs.Common.{◌≡◌, ◌+◌, drop}
use Rattle.policy_expr.specs.Signs.{name_length}
use Rattle.policy_expr.proofs.lexer.name_len.Given as goal

abbrev pub invariant-loop-len : goal.invariant-loop-len
invariant-loop-len l = name_length l.bytes ≡ l.len + name_length (drop l.len l.bytes)
