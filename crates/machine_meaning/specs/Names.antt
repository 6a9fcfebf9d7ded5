-- What a policy says of its switches and members, by their numbers.
use Rattle.std.specs.Prelude.{ℕ, List, [], None, slice_get}
use Rattle.std.specs.Option.{option_map_or}
use Rattle.of10_actions.specs.declared.effects.PortView.{PortView}
use Rattle.policies.specs.Policies.{PolicyOf}
use Rattle.policies.specs.Views.{view_of}
use Rattle.policies.specs.declared.policy.MemberItem.{MemberItem}
use Rattle.virtual_topology.specs.declared.plan.SwitchItem.{SwitchItem}
use Rattle.virtual_topology.specs.declared.plan.VirtualItem.{VirtualItem}

-- the name of a physical switch
abbrev pub switch_name : PolicyOf → ℕ → List ℕ
switch_name p n = option_map_or (λ (s : SwitchItem). s.name) (slice_get p.switches n) []

-- the name of a virtual switch
abbrev pub virtual_name : PolicyOf → ℕ → List ℕ
virtual_name p v = option_map_or (λ (x : VirtualItem). x.name) (slice_get p.virtuals v) []

-- the datapath id of a virtual switch
abbrev pub virtual_dpid : PolicyOf → ℕ → ℕ
virtual_dpid p v = option_map_or (λ (x : VirtualItem). x.dpid) (slice_get p.virtuals v) 0

-- all ports of a virtual switch
abbrev pub all_ports : PolicyOf → ℕ → PortView
all_ports p v =
    option_map_or (λ (x : VirtualItem). view_of v x None) (slice_get p.virtuals v)
    (record { v = v; outside = []; links = [] })

-- the virtual switch of a member
abbrev pub virtual_of : MemberItem → ℕ
virtual_of m = m.grant.ports.v
