use Rattle.std.proofs.Common.{◌≡◌, drop}
use Rattle.virtual_topology.specs.Faults.{first_answer, misshapen}
use Rattle.virtual_topology.proofs.check.check_links.Given as goal

abbrev pub invariant-loop-link : goal.invariant-loop-link
invariant-loop-link l = first_answer (misshapen l.known) (drop l.link-index (l.links))
    ≡ first_answer (misshapen l.known) (l.links)
