-- The plan of one virtual switch that has the ports 1 to 4 of a switch with five.
use Rattle.std.specs.Prelude.{List, [], ◌∷◌}
use Rattle.virtual_topology.specs.Worked.{outside_at, s1, switch_of, v1, virtual_of}
use Rattle.virtual_topology.specs.declared.plan.TopologyPlan.{TopologyPlan}
use Rattle.virtual_topology.specs.declared.plan.VirtualItem.{VirtualItem}

abbrev pub routed_item : VirtualItem
routed_item = virtual_of v1 161 (outside_at 1 s1 1 ∷ outside_at 2 s1 2 ∷ outside_at 3 s1 3 ∷ outside_at 4 s1 4 ∷ [])

abbrev pub routed_plan : TopologyPlan
routed_plan = record {
  switches = switch_of s1 1 (1 ∷ 2 ∷ 3 ∷ 4 ∷ 5 ∷ []) ∷ [];
  cables = [];
  virtuals = routed_item ∷ [];
  links = [];
}
