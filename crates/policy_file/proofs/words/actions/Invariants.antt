use Rattle.std.proofs.Common.{◌≡◌, map, drop}
use Rattle.toml.specs.View.{view}
use Rattle.policy_file.specs.Values.{all_after}
use Rattle.policy_file.specs.Words.{with_kind}
use Rattle.policy_file.proofs.words.actions.Given as goal

abbrev pub invariant-loop-item : goal.invariant-loop-item
invariant-loop-item l =
    all_after with_kind l.mask (map view (drop l.item-index l.items)) ≡ all_after with_kind 0 (map view l.items)
