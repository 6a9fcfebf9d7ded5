-- The places of ports that a plan uses, and those that are there.
use Rattle.std.specs.Prelude.{ℕ, Bool, true, false, ◌==◌, ◌&&◌, nat_eq, Option, Some, None, List, [], ◌∷◌, ◌++◌}
use Rattle.std.specs.Prelude.{if◌then◌else◌, flat_map}
use Rattle.std.specs.Cmp.Lexicographic.{pointwise}
use Rattle.virtual_topology.specs.declared.plan.PairItem.{PairItem}
use Rattle.virtual_topology.specs.declared.plan.PortPlace.{PortPlace}
use Rattle.virtual_topology.specs.declared.plan.TopologyPlan.{TopologyPlan}
use Rattle.virtual_topology.specs.declared.plan.VirtualItem.{VirtualItem}
use Rattle.virtual_topology.specs.declared.plan.VirtualPort.{VirtualPort}
use Rattle.virtual_topology.specs.declared.uses.Role.{Role}
use Rattle.virtual_topology.specs.declared.uses.Role.TheVariants.{Physical, Virtual, Link}

-- two names are one
abbrev pub same_name : List ℕ → List ℕ → Bool
same_name a b = pointwise nat_eq a b

-- two places are one
abbrev pub same_place : PortPlace → PortPlace → Bool
same_place a b = same_name a.name b.name && (a.port == b.port)

-- two roles are one
abbrev pub same_role : Role → Role → Bool
same_role Physical Physical = true
same_role Virtual Virtual = true
same_role Link Link = true
same_role a b = false

-- a place in a role
pub record PlaceUse : Type 0 where
  pub role : Role
  pub place : PortPlace

-- two places in their roles are one
abbrev pub same_use : PlaceUse → PlaceUse → Bool
same_use a b = same_role a.role b.role && same_place a.place b.place

-- a place of a name and a number
abbrev pub at_port : List ℕ → ℕ → PortPlace
at_port name port = record { name = name; port = port }

abbrev pub in_role : Role → PortPlace → PlaceUse
in_role role place = record { role = role; place = place }

-- the ends of a pair; one where both are one place
abbrev pub ends : Role → PairItem → List PlaceUse
ends role pair = in_role role pair.a ∷ (if same_place pair.a pair.b then [] else in_role role pair.b ∷ [])

abbrev pub pair_uses : Role → List PairItem → List PlaceUse
pair_uses role pairs = flat_map (ends role) pairs

-- the physical port that an outside port is
abbrev pub at_use : Option PortPlace → List PlaceUse
at_use None = []
at_use (Some place) = in_role Physical place ∷ []

-- a port of a virtual switch
abbrev pub port_uses : List ℕ → VirtualPort → List PlaceUse
port_uses name q = in_role Virtual (at_port name q.port) ∷ at_use q.at

abbrev pub item_uses : VirtualItem → List PlaceUse
item_uses x = flat_map (port_uses x.name) x.ports

abbrev pub virtual_uses : List VirtualItem → List PlaceUse
virtual_uses xs = flat_map item_uses xs

-- the places that a plan uses, in the order of the file, of which each may be used once: the ends of cables, each port
-- of
-- a virtual switch and the physical port that it is, and the ends of links
abbrev pub uses : TopologyPlan → List PlaceUse
uses plan = pair_uses Physical plan.cables ++ (virtual_uses plan.virtuals ++ pair_uses Link plan.links)
