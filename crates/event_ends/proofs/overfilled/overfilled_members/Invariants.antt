use Rattle.std.proofs.Common.{◌≡◌, ◌++◌, drop}
use Rattle.std.specs.List.{enumerate_from}
use Rattle.event_ends.specs.Boxes.{is_overfilled_member, numbers_where}
use Rattle.event_ends.proofs.overfilled.overfilled_members.Given as goal

-- those so far, and those that are left
abbrev pub invariant-loop-n : goal.invariant-loop-n
invariant-loop-n l =
    l.numbers ++ numbers_where (is_overfilled_member l.begun) (enumerate_from l.n (drop l.n l.members))
    ≡ numbers_where (is_overfilled_member l.begun) (enumerate_from 0 l.members)
