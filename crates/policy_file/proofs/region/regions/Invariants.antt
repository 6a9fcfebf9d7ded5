use Rattle.std.proofs.Common.{◌≡◌, [], map, drop}
use Rattle.toml.specs.View.{view}
use Rattle.policy_file.specs.Values.{all_after}
use Rattle.policy_file.specs.Regions.{with_box}
use Rattle.policy_file.proofs.region.regions.Given as goal

abbrev pub invariant-loop-item : goal.invariant-loop-item
invariant-loop-item l = all_after with_box l.boxes (map view (drop l.item-index l.items))
    ≡ all_after with_box [] (map view l.items)
