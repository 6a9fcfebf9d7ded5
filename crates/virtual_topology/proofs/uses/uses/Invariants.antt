use Rattle.std.proofs.Common.{◌≡◌, ◌++◌, map, take}
use Rattle.virtual_topology.specs.Places.{virtual_uses}
use Rattle.virtual_topology.specs.Shown.{shown}
use Rattle.virtual_topology.proofs.uses.uses.Given as goal

abbrev pub invariant-loop-item : goal.invariant-loop-item
invariant-loop-item l = map shown l.uses.items ≡ map shown l.initial.uses.items
    ++ virtual_uses (take l.item-index l.item-items)
