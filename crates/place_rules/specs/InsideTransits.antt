-- The transit entries for a port, at these ends of cables.
use Rattle.std.specs.Prelude.{ℕ, List, map, filter, flat_map, option_to_list}
use Rattle.switch_meaning.specs.Fixed.{passes, transit}
use Rattle.switch_meaning.specs.declared.entry.PhysEntry.{PhysEntry}
use Rattle.switch_meaning.specs.declared.wiring.Outside.{Outside}
use Rattle.switch_meaning.specs.declared.wiring.SwitchPort.{SwitchPort}
use Rattle.switch_meaning.specs.declared.wiring.Wiring.{Wiring}

-- those by which packets to the port come
abbrev pub transits_by : Wiring → List SwitchPort → Outside → List PhysEntry
transits_by w ends goal =
    flat_map (λ (tag : ℕ). map (λ (s : SwitchPort). transit w s goal tag)
    (filter (λ (s : SwitchPort). passes w s goal) ends)) (option_to_list goal.tag)
