-- The entries of a switch, from scratch.
use Rattle.std.specs.Prelude.{ℕ, Bool, false, ◌==◌, ◌&&◌, Some, if◌then◌else◌, List, [], ◌++◌, map, filter_map}
use Rattle.std.specs.Prelude.{flat_map, slice_get, Option, None}
use Rattle.std.specs.List.{list_any, enumerate_from}
use Rattle.std.specs.Option.{option_map_or}
use Rattle.policy_meaning.specs.Networks.{entering}
use Rattle.policy_meaning.specs.declared.fabric.Entering.{Entering}
use Rattle.policy_meaning.specs.declared.network.VirtualSwitch.{VirtualSwitch}
use Rattle.policy_meaning.specs.declared.rule.Rule.{Rule}
use Rattle.switch_meaning.specs.Fixed.{drops, fixed_entries}
use Rattle.switch_meaning.specs.Keys.{flow_of, installed}
use Rattle.switch_meaning.specs.Placing.{entry_of}
use Rattle.switch_meaning.specs.Wirings.{outside_at}
use Rattle.switch_meaning.specs.declared.entry.FlatRule.{FlatRule}
use Rattle.switch_meaning.specs.declared.entry.FlowEntry.{FlowEntry}
use Rattle.switch_meaning.specs.declared.entry.PhysEntry.{PhysEntry}
use Rattle.switch_meaning.specs.declared.entry.Site.{Site}
use Rattle.switch_meaning.specs.declared.wiring.Outside.{Outside}
use Rattle.switch_meaning.specs.declared.wiring.Wiring.{Wiring}
use Rattle.agreement.specs.declared.state.PhysicalSwitch.{PhysicalSwitch}
use Rattle.agreement.specs.declared.state.Setting.{Setting}

-- what of a rule is put on a switch
abbrev pub flat : Rule → FlatRule
flat r = record { m = r.m; level = r.level; outs = r.outs; ancestry = r.ancestry }

-- a virtual switch at one of its physical switches
abbrev pub site_at : ℕ → ℕ → VirtualSwitch → Site
site_at switch v x = record { v = v; switch = switch; spread = x.spread; whole = x.whole }

-- the outside port lies on this switch
abbrev pub lies_on : Wiring → ℕ → ℕ → ℕ → Bool
lies_on w switch v p = option_map_or (λ (o : Outside). o.at.switch == switch) (outside_at w v p) false

-- some of these ports lies on this switch
abbrev pub stands_on : Wiring → ℕ → ℕ → List ℕ → Bool
stands_on w switch v outside = list_any (lies_on w switch v) outside

-- the rules of a port are put on the switch where it lies, those for all ports where some port lies
abbrev pub enters_on : Wiring → Site → List ℕ → Option ℕ → Bool
enters_on w site outside (Some p) = lies_on w site.switch site.v p
enters_on w site outside None = stands_on w site.switch site.v outside

-- the entries of the rules of a port, of a virtual switch with these outside ports
abbrev pub placed : Wiring → Site → List ℕ → Entering → List PhysEntry
placed w site outside e = if enters_on w site outside e.port then filter_map (λ r. entry_of w site (flat r)) e.rules
    else []

-- the entries of a virtual switch
abbrev pub entries_for : Setting → ℕ → ℕ × VirtualSwitch → List PhysEntry
entries_for s switch (v, x) = flat_map (placed s.wiring (site_at switch v x) x.outside)
    (entering s.network s.hops v (Some x))

-- the switch is all of this virtual switch
abbrev pub is_all_of : Setting → ℕ → ℕ × VirtualSwitch → Bool
is_all_of s switch (v, x) = x.whole && stands_on s.wiring switch v x.outside

-- the switch is all of a virtual switch, so that the ports that are no outside ports have entries that drop
abbrev pub is_whole : Setting → ℕ → Bool
is_whole s switch = list_any (is_all_of s switch) (enumerate_from 0 s.network.switches)

-- the ports of a switch
abbrev pub ports_at : Setting → ℕ → List ℕ
ports_at s switch = option_map_or (λ (x : PhysicalSwitch). x.ports) (slice_get s.switches switch) []

-- the entries that drop
abbrev pub dropping : Setting → ℕ → List PhysEntry
dropping s switch = if is_whole s switch then drops s.wiring switch (ports_at s switch) else []

-- the entries that are put on a switch: those of each virtual switch, and those that don't hang on tables
abbrev pub entries_of : Setting → ℕ → List PhysEntry
entries_of s switch = flat_map (entries_for s switch) (enumerate_from 0 s.network.switches)
    ++ (fixed_entries s.wiring switch ++ dropping s switch)

-- the table that a switch is to have
abbrev pub table_of : Setting → ℕ → List FlowEntry
table_of s switch = map flow_of (installed (entries_of s switch))
