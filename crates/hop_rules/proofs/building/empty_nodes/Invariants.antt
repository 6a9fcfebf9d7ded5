use Rattle.std.proofs.Common.{◌≡◌, length}
use Rattle.std.specs.List.{AllByRecursion}
use Rattle.hop_rules.specs.Building.{IsEmptyNode}
use Rattle.hop_rules.proofs.building.empty_nodes.Given as goal

abbrev pub invariant-loop-stand : goal.invariant-loop-stand
invariant-loop-stand l =
    record { count : length l.nodes ≡ l._stand-index; each : AllByRecursion (IsEmptyNode l.is_read) l.nodes }
