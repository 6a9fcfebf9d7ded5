-- The actions of entries are in range, so that they can be written.
use Rattle.std.specs.Prelude.{ℕ}
use Rattle.std.specs.List.{AllByRecursion}
use Rattle.of10_actions.specs.Actions.{AreInRange}
use Rattle.policy_meaning.specs.Ranged.{EntriesInRange}
use Rattle.switch_meaning.specs.Fixed.{AreTagsInRange}
use Rattle.switch_meaning.specs.Keys.{installed}
use Rattle.switch_meaning.specs.declared.entry.PhysEntry.{PhysEntry}
use Rattle.agreement.specs.declared.state.Setting.{Setting}
use Rattle.agreement.specs.Entries.{entries_of}

-- an entry's actions are in range
abbrev pub CanStand : PhysEntry → Type 0
CanStand e = AreInRange e.actions

-- where what members' entries set is in range, and so are tags, the actions of each entry are
abbrev pub ActionsAreInRange : Type 0
ActionsAreInRange =
    (s : Setting) → AllByRecursion EntriesInRange s.network.tables → AreTagsInRange s.wiring
    → (switch : ℕ) → AllByRecursion CanStand (entries_of s switch)
    × AllByRecursion CanStand (installed (entries_of s switch))
