use Rattle.std.proofs.Common.{◌≡◌, ◌++◌, drop}
use Rattle.machine_meaning.specs.Putting.{slow_lines}
use Rattle.event_ends.proofs.audit_lines.push_slows_of.Given as goal

-- the lines so far, and those that are left
abbrev pub invariant-loop-slow : goal.invariant-loop-slow
invariant-loop-slow l =
    l.lines ++ slow_lines (drop l.slow-index l.slows) (l.n, l.member)
    ≡ l.fn.lines ++ slow_lines l.slows (l.n, l.member)
