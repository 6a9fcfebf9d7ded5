-- The entries that are put on a switch whatever the tables of members have.
use Rattle.std.specs.Prelude.{ℕ, zero, suc, ◌<◌, All, IfSome, Bool, ◌==◌, ◌&&◌, not, Option, Some, if◌then◌else◌, List}
use Rattle.std.specs.Prelude.{[], ◌∷◌, ◌++◌, map, filter, flat_map, option_to_list, is_some, length}
use Rattle.std.specs.List.{list_any}
use Rattle.std.specs.Option.{option_and_then}
use Rattle.of10_match.specs.Matching.{at_port}
use Rattle.of10_actions.specs.declared.action.Action.{Action}
use Rattle.of10_actions.specs.declared.action.Action.TheVariants.{Output, StripVlan}
use Rattle.switch_meaning.specs.Wirings.{same_spot, next_hop, far_end}
use Rattle.switch_meaning.specs.declared.entry.PhysEntry.{PhysEntry}
use Rattle.switch_meaning.specs.declared.wiring.Cable.{Cable}
use Rattle.switch_meaning.specs.declared.wiring.Outside.{Outside}
use Rattle.switch_meaning.specs.declared.wiring.SwitchPort.{SwitchPort}
use Rattle.switch_meaning.specs.declared.wiring.Wiring.{Wiring}

-- the tags of ports are numbers of VLANs
abbrev pub AreTagsInRange : Wiring → Type 0
AreTagsInRange w = All (λ (o : Outside). IfSome o.tag (λ t. t < 4096)) w.outside

-- packets that come by the port of a spread virtual switch go nowhere, unless another entry takes them
abbrev pub guard : Outside → PhysEntry
guard o = record { m = at_port o.at.port; priority = 0; actions = []; ancestry = [] }

-- the port is one of a spread virtual switch, on this switch
abbrev pub is_guarded : ℕ → Outside → Bool
is_guarded switch o = (o.at.switch == switch) && is_some o.tag

-- a guard for each port of a spread virtual switch that is a port of this switch
abbrev pub guards : Wiring → ℕ → List PhysEntry
guards w switch = map guard (filter (is_guarded switch) w.outside)

-- where a packet comes to over the first cable of its way from one switch to another
abbrev pub step : Wiring → ℕ → ℕ → Option SwitchPort
step w from to = option_and_then (λ p. far_end w (record { switch = from; port = p })) (next_hop w from to)

-- where a packet comes to on the way from one switch to another, over at most so many cables
abbrev pub arrivals : Wiring → ℕ → ℕ → ℕ → List SwitchPort
arrivals w zero from to = []
arrivals w (suc n) from to =
    if from == to then []
    else flat_map (λ (s : SwitchPort). s ∷ arrivals w n s.switch to) (option_to_list (step w from to))

-- a packet from some port of a virtual switch comes to this spot on its way to another port of it
abbrev pub passes : Wiring → SwitchPort → Outside → Bool
passes w s goal =
    list_any (λ (o : Outside). (o.v == goal.v) && list_any (same_spot s)
    (arrivals w (length w.cables) o.at.switch goal.at.switch)) w.outside

-- what a switch does with a packet that is on its way to a port: at the goal it is sent out without its tag, else on
abbrev pub transit_actions : Wiring → ℕ → Outside → List Action
transit_actions w switch goal =
    if goal.at.switch == switch then StripVlan ∷ Output goal.at.port 0 ∷ []
    else map (λ p. Output p 0) (option_to_list (next_hop w switch goal.at.switch))

-- the entry for packets that come to a spot with the tag of a port
abbrev pub transit : Wiring → SwitchPort → Outside → ℕ → PhysEntry
transit w s goal tag = record {
  m = record (at_port s.port) { dl_vlan = Some tag };
  priority = 65535;
  actions = transit_actions w s.switch goal;
  ancestry = [];
}

-- the ends of cables at a switch
abbrev pub ends_at : ℕ → List Cable → List SwitchPort
ends_at switch cables = flat_map (λ (c : Cable). filter (λ (s : SwitchPort). s.switch == switch) (c.one ∷ c.other ∷ []))
    cables

-- for each port of a spread virtual switch, and each cable by which packets to it come to this switch
abbrev pub transits_to : Wiring → ℕ → Outside → List PhysEntry
transits_to w switch goal =
    flat_map (λ (tag : ℕ). map (λ (s : SwitchPort). transit w s goal tag)
    (filter (λ (s : SwitchPort). passes w s goal) (ends_at switch w.cables))) (option_to_list goal.tag)

-- the transit entries of a switch, for each port of a spread virtual switch
abbrev pub transits : Wiring → ℕ → List PhysEntry
transits w switch = flat_map (transits_to w switch) w.outside

-- the guards of a switch and then its transit entries
abbrev pub fixed_entries : Wiring → ℕ → List PhysEntry
fixed_entries w switch = guards w switch ++ transits w switch

-- packets that come by a port that belongs to no virtual switch are dropped, where one entry stands for all ports
abbrev pub drop_entry : ℕ → PhysEntry
drop_entry p = record { m = at_port p; priority = 65535; actions = []; ancestry = [] }

-- the port of a switch is an outside port
abbrev pub is_outside : Wiring → ℕ → ℕ → Bool
is_outside w switch p = list_any (λ (o : Outside). same_spot o.at (record { switch = switch; port = p })) w.outside

-- of the ports of such a switch each that is no outside port
abbrev pub drops : Wiring → ℕ → List ℕ → List PhysEntry
drops w switch ports = map drop_entry (filter (λ (p : ℕ). not (is_outside w switch p)) ports)
