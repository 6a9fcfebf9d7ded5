use Rattle.std.proofs.Common.{◌≡◌, map, drop}
use Rattle.virtual_topology.specs.Faults.{first_answer, unknown_place}
use Rattle.virtual_topology.specs.Shown.{shown}
use Rattle.virtual_topology.proofs.check.check_places.Given as goal

abbrev pub invariant-loop-place : goal.invariant-loop-place
invariant-loop-place l = first_answer (unknown_place l.known) (drop l.place-index (map shown l.place-items))
    ≡ first_answer (unknown_place l.known) (map shown l.place-items)
