-- The endpoints of a policy.
use Rattle.std.specs.Prelude.{ℕ, List, ◌++◌, map}
use Rattle.std.specs.List.{enumerate_from}
use Rattle.outside.specs.declared.links.Endpoint.TheVariants as ends
use Rattle.endpoint_works.specs.declared.side.Side.TheVariants as sides
use Rattle.policies.specs.Policies.{PolicyOf}
use Rattle.policies.specs.declared.policy.MemberItem.{MemberItem}
use Rattle.serving.specs.declared.place.Place.{Place}
use Rattle.virtual_topology.specs.declared.plan.SwitchItem.{SwitchItem}

-- the controller of a member is at its address
abbrev pub member_place : (rounds : ℕ) → ℕ × MemberItem → Place
member_place rounds (n, m) = record { end = ends.Member n m.address rounds; side = sides.Member n }

-- a place for each switch, which connects to the address where the policy listens; any that it names may be there
abbrev pub switch_place : (listen : List ℕ) (rounds : ℕ) (dpids : List ℕ) → ℕ × SwitchItem → Place
switch_place listen rounds dpids (n, s) =
    record { end = ends.Switch n listen rounds s.dpid; side = sides.Switch dpids }

abbrev pub dpid_of : SwitchItem → ℕ
dpid_of s = s.dpid

-- where the members and the switches of a policy are
unfoldable pub places_of : PolicyOf → List Place
places_of p =
    map (member_place p.rounds) (enumerate_from 0 p.members)
    ++ map (switch_place p.listen p.rounds (map dpid_of p.switches)) (enumerate_from 0 p.switches)
