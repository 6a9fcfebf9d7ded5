-- What is worked out of a policy once, as the machine opens.
use Rattle.std.specs.Prelude.{◌≡◌, ◌==◌, ◌||◌, not, ℕ, Bool, None, List, map}
use Rattle.std.specs.List.{enumerate_from, list_all}
use Rattle.grants.specs.Ports.{sees_all}
use Rattle.of10_actions.specs.declared.effects.PortView.{PortView}
use Rattle.policies.specs.Policies.{PolicyOf, plan}
use Rattle.policies.specs.Views.{view_of}
use Rattle.policies.specs.declared.policy.MemberItem.{MemberItem}
use Rattle.policy_setting.specs.OfPolicies.{seen as seen_of}
use Rattle.virtual_topology.specs.declared.plan.TopologyPlan.{TopologyPlan}
use Rattle.virtual_topology.specs.declared.plan.VirtualItem.{VirtualItem}
use Rattle.machine_meaning.specs.Lists.{places}
use Rattle.machine_meaning.specs.Ways.{switches_of}

-- all ports of a numbered virtual switch
abbrev pub ports_at : ℕ × VirtualItem → PortView
ports_at (v, x) = view_of v x None

-- all ports of each virtual switch
abbrev pub ports_of : List VirtualItem → List PortView
ports_of virtuals = map ports_at (enumerate_from 0 virtuals)

-- a member isn't one of the virtual switch of these ports, or sees all of them
abbrev pub sees : PortView → MemberItem → Bool
sees ports m = not (m.grant.ports.v == ports.v) || sees_all m.grant ports

-- all members of the virtual switch of these ports see all of them
abbrev pub is_seen : List MemberItem → PortView → Bool
is_seen members ports = list_all (sees ports) members

-- topology and paths are those of the policy; for each virtual switch all its ports are known, whether all its members
-- see them, and its physical switches
pub record IsSetUp (p : PolicyOf) (topology paths : TopologyPlan) (ports : List PortView) (seen : List Bool)
    (switches : List (List ℕ)) : Type 0 where
  pub topology_is : topology ≡ plan p
  pub paths_are : paths ≡ plan p
  pub ports_are : ports ≡ ports_of p.virtuals
  pub seen_is : seen ≡ seen_of p
  pub switches_are : switches ≡ map (switches_of p) (places p.virtuals)
