use Rattle.std.proofs.Common.{◌≡◌, ◌++◌, drop}
use Rattle.event_ends.specs.InsideTelling.{letters_on, switches_before}
use Rattle.machine_drafts.specs.Outcomes.{switches_in}
use Rattle.event_ends.proofs.telling_ports.tell_ports_on.Given as goal

-- what is told so far, and what of the ports that are left
abbrev pub invariant-loop-port : goal.invariant-loop-port
invariant-loop-port l =
    l.letters
    ++ letters_on l.topology (switches_before l.switches) (switches_in l.switches) l.n l.v
    (drop l.port-index l.outside) l.switch
    ≡ l.fn.letters
    ++ letters_on l.topology (switches_before l.switches) (switches_in l.switches) l.n l.v l.outside l.switch
