use Rattle.std.proofs.Common.{◌≡◌, ◌++◌, drop}
use Rattle.std.specs.Prelude.{flat_map}
use Rattle.std.specs.List.{enumerate_from}
use Rattle.event_ends.specs.InsideTelling.{member_letters, switches_before}
use Rattle.machine_drafts.specs.Outcomes.{members_in, switches_in}
use Rattle.event_ends.proofs.telling_ports.tell_members.Given as goal

-- what is told so far, and what to the members that are left
abbrev pub invariant-loop-n : goal.invariant-loop-n
invariant-loop-n l =
    l.letters
    ++ flat_map (member_letters l.setup (members_in l.members) (switches_before l.switches) (switches_in l.switches))
    (enumerate_from l.n (drop l.n l.setup.members))
    ≡ l.fn.letters
    ++ flat_map (member_letters l.setup (members_in l.members) (switches_before l.switches) (switches_in l.switches))
    (enumerate_from 0 l.setup.members)
