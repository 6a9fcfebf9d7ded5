use Rattle.std.proofs.Common.{◌≡◌, ◌++◌, ℕ, drop, map}
use Rattle.std.specs.Prelude.{flat_map}
use Rattle.std.specs.List.{enumerate_from}
use Rattle.virtual_topology.specs.declared.plan.SwitchItem.{SwitchItem}
use Rattle.event_ends.specs.InsideTelling.{letters_on, switches_before}
use Rattle.machine_meaning.specs.Lists.{places}
use Rattle.machine_drafts.specs.Outcomes.{switches_in}
use Rattle.event_ends.proofs.telling_ports.tell_all.Given as goal

-- what is told so far, and what over the switches that are left
abbrev pub invariant-loop-switch : goal.invariant-loop-switch
invariant-loop-switch l =
    l.letters
    ++ flat_map (letters_on l.topology (switches_before l.switches) (switches_in l.switches) l.n l.v l.outside)
    (map (λ (x : ℕ × SwitchItem). x.0) (enumerate_from l.switch (drop l.switch l.topology.switches)))
    ≡ l.fn.letters
    ++ flat_map (letters_on l.topology (switches_before l.switches) (switches_in l.switches) l.n l.v l.outside)
    (places l.topology.switches)
