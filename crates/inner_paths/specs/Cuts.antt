-- Physical switches of one virtual switch without a path between them.
use Rattle.std.specs.Prelude.{ℕ, Bool, ◌==◌, ◌&&◌, is_none, Option, Some, None, if◌then◌else◌, length}
use Rattle.std.specs.List.{enumerate_from, list_any, range_with_len}
use Rattle.virtual_topology.specs.declared.plan.SwitchItem.{SwitchItem}
use Rattle.virtual_topology.specs.declared.plan.TopologyPlan.{TopologyPlan}
use Rattle.virtual_topology.specs.Faults.{first_answer}
use Rattle.virtual_topology.specs.Wires.{Joint, outside_joints}
use Rattle.inner_paths.specs.declared.fault.PathFault.{PathFault}
use Rattle.inner_paths.specs.declared.fault.PathFault.TheVariants.{Unreachable}
use Rattle.inner_paths.specs.Distances.{distance}

-- an outside port of the virtual switch lies on the physical one
abbrev pub lies_on : TopologyPlan → ℕ → ℕ → Bool
lies_on plan v switch = list_any (λ (o : Joint). (o.0.0 == v) && (o.1.0 == switch)) (outside_joints plan)

-- two physical switches of a virtual one have no path
abbrev pub cut_between : TopologyPlan → ℕ → ℕ × SwitchItem → ℕ × SwitchItem → Option PathFault
cut_between plan v (i, a) (j, b) = if (lies_on plan v i && lies_on plan v j) && is_none (distance plan i j)
    then Some (Unreachable a.name b.name) else None

abbrev pub cut_from : TopologyPlan → ℕ → ℕ × SwitchItem → Option PathFault
cut_from plan v a = first_answer (cut_between plan v a) (enumerate_from 0 plan.switches)

abbrev pub cut_of : TopologyPlan → ℕ → Option PathFault
cut_of plan v = first_answer (cut_from plan v) (enumerate_from 0 plan.switches)

-- the first two physical switches of one virtual switch, by the order of the virtual ones and then by their own,
-- between
-- which there is no path
abbrev pub cut_fault : TopologyPlan → Option PathFault
cut_fault plan = first_answer (cut_of plan) (range_with_len 0 (length plan.virtuals))
