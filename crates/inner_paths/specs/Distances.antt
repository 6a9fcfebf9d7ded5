-- Distances between physical switches, by count of cables.
use Rattle.std.specs.Prelude.{ℕ, zero, suc, Bool, ◌==◌, ◌&&◌, Option, Some, None, List, if◌then◌else◌, length}
use Rattle.std.specs.List.{list_any}
use Rattle.std.specs.Option.{option_or}
use Rattle.virtual_topology.specs.declared.plan.TopologyPlan.{TopologyPlan}
use Rattle.virtual_topology.specs.Wires.{Joint, both_ways, cable_joints}

-- from each end of a cable to the other
abbrev pub ways_of : TopologyPlan → List Joint
ways_of plan = both_ways (cable_joints plan)

-- there is a path of so many cables
abbrev pub has_path : List Joint → ℕ → ℕ → ℕ → Bool
has_path ways zero from to = from == to
has_path ways (suc n) from to = list_any (λ (w : Joint). (w.0.0 == from) && has_path ways n w.1.0 to) ways

-- the least number of cables of a path, of at most so many
abbrev pub distance_within : List Joint → ℕ → ℕ → ℕ → Option ℕ
distance_within ways zero from to = if from == to then Some 0 else None
distance_within ways (suc n) from to = option_or (distance_within ways n from to)
    (if has_path ways (suc n) from to then Some (suc n) else None)

-- the distance of two switches; a shortest path comes to no switch twice, so it has no more cables than there are
-- switches
abbrev pub distance : TopologyPlan → ℕ → ℕ → Option ℕ
distance plan from to = distance_within (ways_of plan) (length plan.switches) from to
