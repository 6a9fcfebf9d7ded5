use Rattle.std.proofs.Common.{◌≡◌, ◌++◌, drop}
use Rattle.std.specs.Prelude.{flat_map}
use Rattle.std.specs.List.{enumerate_from}
use Rattle.event_ends.specs.Boxes.{down_lines_at}
use Rattle.event_ends.proofs.audit_lines.push_downs.Given as goal

-- the lines so far, and those of the switches that are left
abbrev pub invariant-loop-n : goal.invariant-loop-n
invariant-loop-n l =
    l.lines ++ flat_map (down_lines_at l.downs) (enumerate_from l.n (drop l.n l.switches))
    ≡ l.fn.lines ++ flat_map (down_lines_at l.downs) (enumerate_from 0 l.switches)
