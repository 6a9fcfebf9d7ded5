use Rattle.std.proofs.Common.{◌≡◌, ◌++◌, map, take}
use Rattle.std.specs.Prelude.{flat_map}
use Rattle.virtual_topology.specs.Rows.{port_rows}
use Rattle.virtual_topology.specs.Shown.{shown_row}
use Rattle.virtual_topology.proofs.known.push_virtual.Given as goal

abbrev pub invariant-loop-port : goal.invariant-loop-port
invariant-loop-port l = map shown_row l.rows.items ≡ map shown_row l.initial.rows.items
    ++ flat_map (port_rows l.number l.item.name) (take l.port-index l.port-items)
