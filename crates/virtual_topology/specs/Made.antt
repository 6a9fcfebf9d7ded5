-- What a topology keeps beside its plan.
use Rattle.std.specs.Prelude.{◌≡◌, ℕ, None, List, map}
use Rattle.std.specs.List.{enumerate_from}
use Rattle.virtual_topology.specs.declared.plan.TopologyPlan.{TopologyPlan}
use Rattle.virtual_topology.specs.declared.plan.VirtualItem.{VirtualItem}
use Rattle.virtual_topology.specs.declared.standing.Standing.{Standing}
use Rattle.virtual_topology.specs.Faults.{fault_of}
use Rattle.virtual_topology.specs.Rows.{Row, rows}
use Rattle.virtual_topology.specs.Wires.{Joint, both_ways, cable_joints, is_lone_with, item_joints, lie_apart}
use Rattle.virtual_topology.specs.Wires.{link_joints, outside_joints, turned}

-- how a virtual switch lies
abbrev pub standing_of : List Row → List Joint → List Joint → ℕ × VirtualItem → Standing
standing_of rs cables outside (v, x) =
    record {
      spread = lie_apart (item_joints rs (v, x));
      lone = is_lone_with cables outside v x (item_joints rs (v, x));
    }

abbrev pub standings_of : List Row → List Joint → List Joint → List VirtualItem → List Standing
standings_of rs cables outside virtuals = map (standing_of rs cables outside) (enumerate_from 0 virtuals)

-- the plan has no fault, and the joints are its own
pub record IsMade (plan : TopologyPlan) (outside entering peers far_ends : List Joint)
    (standings : List Standing) : Type 0 where
  pub sound : fault_of plan ≡ None
  pub outside_is : outside ≡ outside_joints plan
  pub entering_is : entering ≡ turned (outside_joints plan)
  pub peers_is : peers ≡ both_ways (link_joints plan)
  pub far_ends_is : far_ends ≡ both_ways (cable_joints plan)
  pub standings_is : standings ≡ standings_of (rows plan) (cable_joints plan) (outside_joints plan) plan.virtuals
