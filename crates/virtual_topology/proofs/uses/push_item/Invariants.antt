use Rattle.std.proofs.Common.{◌≡◌, ◌++◌, map, take}
use Rattle.std.specs.Prelude.{flat_map}
use Rattle.virtual_topology.specs.Places.{port_uses}
use Rattle.virtual_topology.specs.Shown.{shown}
use Rattle.virtual_topology.proofs.uses.push_item.Given as goal

abbrev pub invariant-loop-port : goal.invariant-loop-port
invariant-loop-port l = map shown l.uses.items ≡ map shown l.initial.uses.items
    ++ flat_map (port_uses l.item.name) (take l.port-index l.port-items)
