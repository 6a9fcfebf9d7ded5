-- The physical switches of a virtual switch.
use Rattle.std.specs.Prelude.{ℕ, zero, suc, Bool, false, ◌==◌, ◌&&◌, ◌||◌, List, [], ◌∷◌, filter, length, slice_get}
use Rattle.std.specs.List.{list_any}
use Rattle.std.specs.Option.{option_map_or}
use Rattle.grants.specs.Ports.{is_one_of}
use Rattle.policies.specs.Policies.{PolicyOf, plan}
use Rattle.policy_setting.specs.Wirings.{wiring}
use Rattle.switch_meaning.specs.Fixed.{arrivals}
use Rattle.switch_meaning.specs.declared.wiring.Outside.{Outside}
use Rattle.switch_meaning.specs.declared.wiring.SwitchPort.{SwitchPort}
use Rattle.switch_meaning.specs.declared.wiring.Wiring.{Wiring}
use Rattle.virtual_topology.specs.Rows.{Spot}
use Rattle.virtual_topology.specs.Wires.{Joint, outside_joints, peer_of}
use Rattle.virtual_topology.specs.declared.plan.TopologyPlan.{TopologyPlan}
use Rattle.virtual_topology.specs.declared.plan.VirtualItem.{VirtualItem}
use Rattle.virtual_topology.specs.declared.plan.VirtualPort.{VirtualPort}
use Rattle.machine_meaning.specs.Lists.{places}

-- a link leads from the port of a virtual switch to this one
abbrev pub links_to : TopologyPlan → ℕ → ℕ → VirtualPort → Bool
links_to t u v port = option_map_or (λ (s : Spot). s.0 == u) (peer_of t v port.port) false

-- a link leads from the virtual switch to this one
abbrev pub is_linked : TopologyPlan → ℕ → ℕ → Bool
is_linked t u v = option_map_or (λ (x : VirtualItem). list_any (links_to t u v) x.ports) (slice_get t.virtuals v) false

-- a link leads from one of these virtual switches to this one
abbrev pub is_next : TopologyPlan → List ℕ → ℕ → Bool
is_next t vs u = list_any (is_linked t u) vs

-- with those to which one link leads from them
abbrev pub with_next : TopologyPlan → List ℕ → List ℕ
with_next t vs = filter (λ u. is_one_of vs u || is_next t vs u) (places t.virtuals)

-- with those to which at most so many links lead
abbrev pub over_links : TopologyPlan → ℕ → List ℕ → List ℕ
over_links t zero vs = vs
over_links t (suc n) vs = over_links t n (with_next t vs)

-- the virtual switches to which links lead from one, directly or through others, and itself
abbrev pub group_of : TopologyPlan → ℕ → List ℕ
group_of t v = over_links t (length t.virtuals) (v ∷ [])

-- one of these virtual switches has an outside port on the switch
abbrev pub lies_on : TopologyPlan → List ℕ → ℕ → Bool
lies_on t vs n = list_any (λ (j : Joint). is_one_of vs j.0.0 && (j.1.0 == n)) (outside_joints t)

-- the way from a switch to another comes to the switch
abbrev pub leads_over : Wiring → ℕ → ℕ → ℕ → Bool
leads_over w n from to = list_any (λ (s : SwitchPort). s.switch == n) (arrivals w (length w.cables) from to)

-- a way between two outside ports of the virtual switch comes to the switch
abbrev pub is_between : Wiring → ℕ → ℕ → Bool
is_between w v n =
    list_any (λ (a : Outside). (a.v == v)
    && list_any (λ (b : Outside). (b.v == v) && leads_over w n a.at.switch b.at.switch) w.outside) w.outside

-- one of these virtual switches has an outside port on the switch, or a way between two outside ports of the virtual
-- switch comes to it
abbrev pub is_switch_by : TopologyPlan → Wiring → List ℕ → ℕ → ℕ → Bool
is_switch_by t w vs v n = lies_on t vs n || is_between w v n

-- such switches, in the order of the file
abbrev pub switches_by : TopologyPlan → Wiring → List ℕ → ℕ → List ℕ
switches_by t w vs v = filter (is_switch_by t w vs v) (places t.switches)

-- the switches of a virtual switch: where it, or one to which links lead from it, has an outside port, and those on the
-- ways between its outside ports
abbrev pub switches_in : TopologyPlan → ℕ → List ℕ
switches_in t v = switches_by t (wiring t) (group_of t v) v

abbrev pub switches_of : PolicyOf → ℕ → List ℕ
switches_of p v = switches_in (plan p) v
