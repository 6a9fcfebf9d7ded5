-- The places that are there, and where they are.
use Rattle.std.specs.Prelude.{ℕ, Bool, ◌==◌, ◌&&◌, Option, Some, None, List, [], ◌∷◌, ◌++◌, map, flat_map}
use Rattle.std.specs.List.{enumerate_from}
use Rattle.std.specs.Map.{lookup}
use Rattle.virtual_topology.specs.declared.plan.PortPlace.{PortPlace}
use Rattle.virtual_topology.specs.declared.plan.SwitchItem.{SwitchItem}
use Rattle.virtual_topology.specs.declared.plan.TopologyPlan.{TopologyPlan}
use Rattle.virtual_topology.specs.declared.plan.VirtualItem.{VirtualItem}
use Rattle.virtual_topology.specs.declared.plan.VirtualPort.{VirtualPort}
use Rattle.virtual_topology.specs.declared.uses.Role.{Role}
use Rattle.virtual_topology.specs.declared.uses.Role.TheVariants.{Physical, Virtual, Link}
use Rattle.virtual_topology.specs.Places.{PlaceUse, in_role, at_port, same_use}

-- a port by numbers: that of its switch in the file, from 0, and its own
abbrev pub Spot : Type 0
Spot = ℕ × ℕ

-- two such are one
abbrev pub same_spot : Spot → Spot → Bool
same_spot a b = (a.0 == b.0) && (a.1 == b.1)

-- a place that is there, in its role, and where
abbrev pub Row : Type 0
Row = PlaceUse × Spot

-- the ports of a physical switch
abbrev pub switch_rows : ℕ × SwitchItem → List Row
switch_rows (i, s) = map (λ p. (in_role Physical (at_port s.name p), (i, p))) s.ports

abbrev pub all_switch_rows : List SwitchItem → List Row
all_switch_rows switches = flat_map switch_rows (enumerate_from 0 switches)

-- a port without a physical one is a link port
abbrev pub link_row : Option PortPlace → PortPlace → Spot → List Row
link_row None place spot = (in_role Link place, spot) ∷ []
link_row (Some at) place spot = []

abbrev pub port_rows : ℕ → List ℕ → VirtualPort → List Row
port_rows v name q = (in_role Virtual (at_port name q.port), (v, q.port))
    ∷ link_row q.at (at_port name q.port) (v, q.port)

-- the ports of a virtual switch
abbrev pub virtual_rows : ℕ × VirtualItem → List Row
virtual_rows (v, x) = flat_map (port_rows v x.name) x.ports

abbrev pub all_virtual_rows : List VirtualItem → List Row
all_virtual_rows virtuals = flat_map virtual_rows (enumerate_from 0 virtuals)

-- the places of a plan, in the order of the file
abbrev pub rows : TopologyPlan → List Row
rows plan = all_switch_rows plan.switches ++ all_virtual_rows plan.virtuals

-- where a place is, if it is there
abbrev pub where_is : List Row → Role → PortPlace → Option Spot
where_is rows role place = lookup (same_use (in_role role place)) rows
