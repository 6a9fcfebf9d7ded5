use Rattle.std.proofs.Common.{drop}
use Rattle.member_replies.specs.Statistics.{AreShort}
use Rattle.event_ends.proofs.settling.are_short.Given as goal

-- where those that are left are short all are
abbrev pub invariant-loop-place : goal.invariant-loop-place
invariant-loop-place l = AreShort (drop l.place l.table.table.entries) → AreShort l.table.table.entries
