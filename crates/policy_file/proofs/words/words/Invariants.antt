use Rattle.std.proofs.Common.{◌≡◌, ◌++◌, map, drop}
use Rattle.std.specs.Option.{option_map}
use Rattle.toml.specs.Data.{as_str}
use Rattle.toml.specs.View.{view}
use Rattle.policy_file.specs.Values.{each_of}
use Rattle.policy_file.proofs.words.words.Given as goal

abbrev pub invariant-loop-item : goal.invariant-loop-item
invariant-loop-item l =
    option_map (λ ys. map (λ w. w.now) l.words.items ++ ys) (each_of as_str (map view (drop l.item-index l.items)))
    ≡ each_of as_str (map view l.items)
