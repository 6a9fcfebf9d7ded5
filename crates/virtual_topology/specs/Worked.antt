-- Small plans, and what is found of them.
use Rattle.std.specs.Prelude.{◌≡◌, ℕ, true, false, Some, None, List, [], ◌∷◌, ◌++◌, codes}
use Rattle.virtual_topology.specs.declared.fault.TopologyFault.TheVariants.{PortTwice, Unknown, LinkShape, Mixed}
use Rattle.virtual_topology.specs.declared.fault.TopologyFault.TheVariants.{TooMany}
use Rattle.virtual_topology.specs.declared.plan.PairItem.{PairItem}
use Rattle.virtual_topology.specs.declared.plan.SwitchItem.{SwitchItem}
use Rattle.virtual_topology.specs.declared.plan.TopologyPlan.{TopologyPlan}
use Rattle.virtual_topology.specs.declared.plan.VirtualItem.{VirtualItem}
use Rattle.virtual_topology.specs.declared.plan.VirtualPort.{VirtualPort}
use Rattle.virtual_topology.specs.Faults.{fault_of, place_text}
use Rattle.virtual_topology.specs.Places.{at_port}
use Rattle.virtual_topology.specs.Wires.{entering_of, far_end_of, is_lone_of, is_spread_of, outside_of, peer_of}

abbrev pub s1 : List ℕ
s1 = codes "s1"

abbrev pub s2 : List ℕ
s2 = codes "s2"

abbrev pub s3 : List ℕ
s3 = codes "s3"

abbrev pub v1 : List ℕ
v1 = codes "v1"

abbrev pub v2 : List ℕ
v2 = codes "v2"

abbrev pub switch_of : List ℕ → ℕ → List ℕ → SwitchItem
switch_of name dpid ports = record { name = name; dpid = dpid; ports = ports }

abbrev pub pair_of : List ℕ → ℕ → List ℕ → ℕ → PairItem
pair_of a p b q = record { a = at_port a p; b = at_port b q }

abbrev pub outside_at : ℕ → List ℕ → ℕ → VirtualPort
outside_at port name p = record { port = port; at = Some (at_port name p) }

abbrev pub link_at : ℕ → VirtualPort
link_at port = record { port = port; at = None }

abbrev pub virtual_of : List ℕ → ℕ → List VirtualPort → VirtualItem
virtual_of name dpid ports = record { name = name; dpid = dpid; ports = ports; expr = codes "app" }

-- one virtual switch over three switches in a row, with two of its four ports at the first
abbrev pub row_of_three : TopologyPlan
row_of_three = record {
  switches = switch_of s1 1 (1 ∷ 2 ∷ 3 ∷ []) ∷ switch_of s2 2 (1 ∷ 3 ∷ 4 ∷ []) ∷ switch_of s3 3 (1 ∷ 3 ∷ []) ∷ [];
  cables = pair_of s1 3 s2 3 ∷ pair_of s2 4 s3 3 ∷ [];
  virtuals = virtual_of v1 161 (outside_at 1 s1 1 ∷ outside_at 2 s2 1 ∷ outside_at 3 s1 2 ∷ outside_at 4 s3 1 ∷ [])
      ∷ [];
  links = [];
}

-- its ports are found by number, both ways
abbrev pub PortsAreFound : Type 0
PortsAreFound =
    (fault_of row_of_three ≡ None) × (outside_of row_of_three 0 4 ≡ Some (2, 1))
    × (entering_of row_of_three 2 1 ≡ Some (0, 4)) × (entering_of row_of_three 2 3 ≡ None)
    × (far_end_of row_of_three 1 4 ≡ Some (2, 3)) × (far_end_of row_of_three 1 3 ≡ Some (0, 3))
    × (is_spread_of row_of_three 0 ≡ true) × (is_lone_of row_of_three 0 ≡ false)

-- two virtual switches on one switch of four ports, with two links
abbrev pub first_of_two : VirtualItem
first_of_two = virtual_of v1 161 (outside_at 1 s1 1 ∷ outside_at 2 s1 2 ∷ link_at 8 ∷ link_at 9 ∷ [])

abbrev pub linked : TopologyPlan
linked = record {
  switches = switch_of s1 1 (1 ∷ 2 ∷ 3 ∷ 4 ∷ []) ∷ [];
  cables = [];
  virtuals = first_of_two ∷ virtual_of v2 162 (outside_at 1 s1 3 ∷ outside_at 2 s1 4 ∷ link_at 8 ∷ link_at 9 ∷ []) ∷ [];
  links = pair_of v1 9 v2 9 ∷ pair_of v1 8 v2 8 ∷ [];
}

-- a link leads both ways; neither virtual switch is alone on the switch
abbrev pub LinksLead : Type 0
LinksLead =
    (fault_of linked ≡ None) × (peer_of linked 0 9 ≡ Some (1, 9)) × (peer_of linked 1 8 ≡ Some (0, 8))
    × (peer_of linked 0 1 ≡ None) × (is_spread_of linked 1 ≡ false) × (is_lone_of linked 1 ≡ false)
    × (is_lone_of
    (record {
      switches = switch_of s1 1 (1 ∷ 2 ∷ []) ∷ [];
      cables = [];
      virtuals = virtual_of v1 161 (outside_at 1 s1 1 ∷ []) ∷ [];
      links = [];
    }) 0 ≡ true)

abbrev pub four : List SwitchItem
four = switch_of s1 1 [] ∷ switch_of s1 1 [] ∷ switch_of s1 1 [] ∷ switch_of s1 1 [] ∷ []

-- a cable at an outside port, a place that isn't there, a link port without a link, two switches under linked ones, and
-- the 17th switch
abbrev pub FaultsAreNamed : Type 0
FaultsAreNamed =
    (fault_of (record row_of_three { cables = pair_of s1 3 s2 3 ∷ pair_of s2 4 s1 1 ∷ [] })
    ≡ Some (PortTwice (place_text (at_port s1 1))))
    × (fault_of (record row_of_three { cables = pair_of s1 3 s2 3 ∷ pair_of s2 4 s3 2 ∷ [] })
    ≡ Some (Unknown (place_text (at_port s3 2))))
    × (fault_of (record linked { links = pair_of v1 9 v2 9 ∷ [] }) ≡ Some (LinkShape (place_text (at_port v1 8))))
    × (fault_of (record linked {
      switches = switch_of s1 1 (1 ∷ 2 ∷ 3 ∷ []) ∷ switch_of s2 2 (4 ∷ []) ∷ [];
      virtuals =
          first_of_two ∷ virtual_of v2 162 (outside_at 1 s1 3 ∷ outside_at 2 s2 4 ∷ link_at 8 ∷ link_at 9 ∷ []) ∷ [];
    })
    ≡ Some (Mixed v1))
    × (fault_of (record {
      switches = four ++ four ++ four ++ four ++ switch_of s2 2 [] ∷ [];
      cables = [];
      virtuals = [];
      links = [];
    }) ≡ Some (TooMany s2 16))
