use Rattle.std.proofs.Common.{◌≡◌, ◌++◌}
use Rattle.event_ends.proofs.audit_lines.push_all.Given as goal

abbrev pub invariant-loop-line : goal.invariant-loop-line
invariant-loop-line l = l.lines ≡ l.fn.lines ++ l.yielded
