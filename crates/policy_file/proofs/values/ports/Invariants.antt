use Rattle.std.proofs.Common.{◌≡◌, ◌++◌, map, drop}
use Rattle.std.specs.Option.{option_map}
use Rattle.toml.specs.View.{view}
use Rattle.policy_file.specs.Values.{each_of, port}
use Rattle.policy_file.proofs.values.ports.Given as goal

abbrev pub invariant-loop-item : goal.invariant-loop-item
invariant-loop-item l = option_map (λ ys. l.ports ++ ys) (each_of port (map view (drop l.item-index l.items)))
    ≡ each_of port (map view l.items)
