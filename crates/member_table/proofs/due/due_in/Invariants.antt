use Rattle.std.proofs.Common.{◌≡◌, ◌++◌, drop}
use Rattle.member_table.specs.Timeouts.{is_hard_due, is_idle_due, serials_of}
use Rattle.member_table.proofs.due.due_in.Given as goal

-- what is there, and what is left gives the rest
abbrev pub invariant-loop-place : goal.invariant-loop-place
invariant-loop-place l = record {
  hard : l.due.hard ++ serials_of (is_hard_due l.now) (drop l.place l.order.entries)
      ≡ serials_of (is_hard_due l.now) l.order.entries;
  idle : l.due.idle ++ serials_of (is_idle_due l.now) (drop l.place l.order.entries)
      ≡ serials_of (is_idle_due l.now) l.order.entries;
}
