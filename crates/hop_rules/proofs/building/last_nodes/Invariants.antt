use Rattle.std.proofs.Common.{◌≡◌, length}
use Rattle.std.specs.List.{AllByRecursion}
use Rattle.hop_rules.specs.Building.{IsLast}
use Rattle.hop_rules.proofs.building.last_nodes.Given as goal

abbrev pub invariant-loop-end : goal.invariant-loop-end
invariant-loop-end l = record { count : length l.nodes ≡ l._end-index; each : AllByRecursion IsLast l.nodes }
