-- The laws that tie what is kept to the entries of a setting from scratch.
use Rattle.std.specs.Prelude.{◌≡◌, ℕ, ◌++◌, List}
use Rattle.agreement.specs.Entries.{dropping, entries_of}
use Rattle.agreement.specs.declared.state.Setting.{Setting}
use Rattle.hop_rules.specs.declared.delta.PortDelta.{PortDelta}
use Rattle.list_change.specs.Changes.{Changed}
use Rattle.policy_meaning.specs.Switches.{SwitchOf}
use Rattle.switch_meaning.specs.Fixed.{fixed_entries}
use Rattle.switch_meaning.specs.declared.wiring.Wiring.{Wiring}
use Rattle.composed_tables.specs.Composing.{AreExact, rules_in}
use Rattle.composed_tables.specs.Placing.{RulesBy, changed_by, entries_by}
use Rattle.composed_tables.specs.declared.part.Part.TheVariants.{Come, Gone}

-- the entries of a switch are those of the rules that enter its virtual switches, and those that don't hang on tables
abbrev pub EntriesByEntrance : Type 0
EntriesByEntrance =
    (s : Setting) (n : ℕ)
    → entries_of s n ≡ entries_by s.wiring s.network.switches (rules_in s) n
    ++ (fixed_entries s.wiring n ++ dropping s n)

-- where rules change at entrances, exactly the entries of the rules that went and came go and come
abbrev pub EntriesChange : Type 0
EntriesChange =
    (w : Wiring) (switches : List SwitchOf) (before after : RulesBy) (deltas : List PortDelta)
    → AreExact switches before after deltas
    → (n : ℕ) → Changed (entries_by w switches before n) (entries_by w switches after n)
    (entries_by w switches (changed_by Gone deltas) n) (entries_by w switches (changed_by Come deltas) n)
