use Rattle.std.proofs.Common.{◌∙◌, List, ◌++◌, ap, append-nil, refl, sym}
use Rattle.event_ends.proofs.PortsStill.{none_on}
use Rattle.machine_meaning.specs.declared.said.Letter.{Letter}
use Rattle.event_ends.proofs.telling_ports.tell_ports_on.Goals as goal

pub returns-then-is_still_at : goal.returns-then-is_still_at
returns-then-is_still_at c =
    sym (ap (λ (ls : List Letter). c.args.letters.now ++ ls)
    (none_on c.args.topology.now c.args.switches.now c.args.switch (c.if-is_still_at.ensures refl) c.args.n c.args.v
    c.args.outside.now)
    ∙ append-nil c.args.letters.now)
