use Rattle.std.proofs.Common.{◌≡◌, ℕ, ◌++◌, map, take}
use Rattle.virtual_topology.specs.declared.uses.Role.TheVariants.{Physical}
use Rattle.virtual_topology.specs.Places.{in_role, at_port}
use Rattle.virtual_topology.specs.Shown.{shown_row}
use Rattle.virtual_topology.proofs.known.push_switch.Given as goal

abbrev pub invariant-loop-port : goal.invariant-loop-port
invariant-loop-port l =
    map shown_row l.rows.items ≡ map shown_row l.initial.rows.items
    ++ map (λ (p : ℕ). (in_role Physical (at_port l.item.name p), (l.number, p))) (take l.port-index l.port-items)
