use Rattle.std.proofs.Common.{take}
use Rattle.std.specs.List.{AllByRecursion}
use Rattle.member_table.specs.InsideKept.{IsQuietUntil}
use Rattle.member_table.proofs.due.soonest_of.Given as goal

-- no timeout of those that were looked at passes before
abbrev pub invariant-loop-place : goal.invariant-loop-place
invariant-loop-place l = AllByRecursion (IsQuietUntil l.soonest) (take l.place l.order.entries)
