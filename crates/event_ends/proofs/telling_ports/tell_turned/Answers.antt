use Rattle.std.proofs.Common.{◌∙◌, List, ◌++◌, ap, append-nil, refl, sym}
use Rattle.std.specs.List.{enumerate_from}
use Rattle.event_ends.proofs.PortsStill.{none_told}
use Rattle.machine_drafts.specs.Outcomes.{members_in}
use Rattle.machine_meaning.specs.declared.said.Letter.{Letter}
use Rattle.event_ends.proofs.telling_ports.tell_turned.Goals as goal

pub returns-then-are_still : goal.returns-then-are_still
returns-then-are_still c =
    sym (ap (λ (ls : List Letter). c.args.letters.now ++ ls)
    (none_told c.args.setup.now (members_in c.args.members.now) c.args.switches.now (c.if-are_still.ensures refl)
    (enumerate_from 0 c.args.setup.now.members))
    ∙ append-nil c.args.letters.now)
