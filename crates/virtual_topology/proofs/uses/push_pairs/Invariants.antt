use Rattle.std.proofs.Common.{◌≡◌, ◌++◌, map, take}
use Rattle.virtual_topology.specs.Places.{pair_uses}
use Rattle.virtual_topology.specs.Shown.{shown}
use Rattle.virtual_topology.proofs.uses.push_pairs.Given as goal

abbrev pub invariant-loop-pair : goal.invariant-loop-pair
invariant-loop-pair l = map shown l.uses.items ≡ map shown l.initial.uses.items
    ++ pair_uses l.role (take l.pair-index l.pairs)
