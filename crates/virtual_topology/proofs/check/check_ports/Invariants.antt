use Rattle.std.proofs.Common.{◌≡◌, map, drop}
use Rattle.virtual_topology.specs.Faults.{first_answer, unlinked}
use Rattle.virtual_topology.specs.Shown.{shown_row}
use Rattle.virtual_topology.proofs.check.check_ports.Given as goal

abbrev pub invariant-loop-row : goal.invariant-loop-row
invariant-loop-row l = first_answer (unlinked l.used) (drop l.row-index (map shown_row l.row-items))
    ≡ first_answer (unlinked l.used) (map shown_row l.row-items)
