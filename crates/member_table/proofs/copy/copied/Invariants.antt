use Rattle.member_table.proofs.Copies.{IsCopiedTo}
use Rattle.member_table.proofs.copy.copied.Given as goal

abbrev pub invariant-loop-place : goal.invariant-loop-place
invariant-loop-place l = IsCopiedTo l.order.entries l.place l.copied
