-- The entries of rules, by the ports at which they enter, and how they change with the rules.
use Rattle.std.specs.Prelude.{ℕ, Option, Some, None, List, [], ◌∷◌, if◌then◌else◌, find, flat_map, map}
use Rattle.std.specs.List.{enumerate_from}
use Rattle.std.specs.Option.{option_map_or}
use Rattle.agreement.specs.Entries.{placed, site_at}
use Rattle.exact_gate.specs.declared.delta.GateDelta.{GateDelta}
use Rattle.hop_rules.specs.Tables.{is_of}
use Rattle.hop_rules.specs.declared.delta.PortDelta.{PortDelta}
use Rattle.policy_meaning.specs.Switches.{SwitchOf}
use Rattle.policy_meaning.specs.declared.network.Place.{Place}
use Rattle.policy_meaning.specs.declared.rule.Rule.{Rule}
use Rattle.switch_meaning.specs.declared.entry.PhysEntry.{PhysEntry}
use Rattle.switch_meaning.specs.declared.wiring.Wiring.{Wiring}
use Rattle.composed_tables.specs.declared.part.Part.{Part}
use Rattle.composed_tables.specs.declared.part.Part.TheVariants.{Come, Gone}

-- the ports at which rules enter a virtual switch: each outside port, or none where its rules are for all ports at once
abbrev pub entrances : SwitchOf → List (Option ℕ)
entrances x = if x.whole then None ∷ [] else map Some x.outside

-- rules for each virtual switch and entrance
abbrev pub RulesBy : Type 0
RulesBy = ℕ × SwitchOf → Option ℕ → List Rule

-- the entries on a switch of the rules that enter a virtual switch
abbrev pub entries_of_one : Wiring → RulesBy → ℕ → ℕ × SwitchOf → List PhysEntry
entries_of_one w rules n i =
    flat_map (λ (e : Option ℕ). placed w (site_at n i.0 i.1) i.1.outside (record { port = e; rules = rules i e }))
    (entrances i.1)

-- the entries on a switch of the rules that enter virtual switches
abbrev pub entries_by : Wiring → List SwitchOf → RulesBy → ℕ → List PhysEntry
entries_by w switches rules n = flat_map (entries_of_one w rules n) (enumerate_from 0 switches)

-- the place of an entrance; 0 is for all ports
abbrev pub entrance : ℕ → Option ℕ → Place
entrance v (Some p) = record { v = v; port = p }
entrance v None = record { v = v; port = 0 }

-- the rules of a delta that went, or those that came
abbrev pub rules_for : Part → PortDelta → List Rule
rules_for Gone d = d.gone
rules_for Come d = d.come

-- those of a place among some deltas
abbrev pub rules_at : Part → List PortDelta → Place → List Rule
rules_at part deltas p = option_map_or (rules_for part) (find (is_of p) deltas) []

-- for each virtual switch and entrance
abbrev pub changed_by : Part → List PortDelta → RulesBy
changed_by part deltas i e = rules_at part deltas (entrance i.0 e)

-- the entries on a switch of what went, and of what came
abbrev pub entry_delta : Wiring → List SwitchOf → List PortDelta → ℕ → GateDelta
entry_delta w switches deltas n =
    record {
      gone = entries_by w switches (changed_by Gone deltas) n;
      come = entries_by w switches (changed_by Come deltas) n;
    }
