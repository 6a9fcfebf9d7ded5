use Rattle.std.proofs.Common.{◌≡◌, ◌++◌, drop}
use Rattle.std.specs.Prelude.{flat_map}
use Rattle.std.specs.List.{enumerate_from}
use Rattle.machine_meaning.specs.Putting.{slow_lines}
use Rattle.event_ends.proofs.audit_lines.push_slows.Given as goal

-- the lines so far, and those of the members that are left
abbrev pub invariant-loop-n : goal.invariant-loop-n
invariant-loop-n l =
    l.lines ++ flat_map (slow_lines l.slows) (enumerate_from l.n (drop l.n l.members))
    ≡ l.fn.lines ++ flat_map (slow_lines l.slows) (enumerate_from 0 l.members)
