use Rattle.std.proofs.Common.{◌≡◌, [], map, take, drop}
use Rattle.std.specs.List.{list_any}
use Rattle.std.specs.HashSet.{contains}
use Rattle.virtual_topology.specs.Faults.{first_again}
use Rattle.virtual_topology.specs.Places.{same_use}
use Rattle.virtual_topology.specs.Shown.{shown, same_shown}
use Rattle.virtual_topology.proofs.used.set_of.Given as goal

abbrev pub invariant-loop-place : goal.invariant-loop-place
invariant-loop-place l =
    ((u : _) → contains same_shown l.set u ≡ list_any (same_use (shown u)) (take l.place-index (map shown l.list)))
    × (first_again same_use (take l.place-index (map shown l.list)) (drop l.place-index (map shown l.list))
    ≡ first_again same_use [] (map shown l.list))
