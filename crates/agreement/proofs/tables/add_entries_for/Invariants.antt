use Rattle.std.proofs.Common.{◌≡◌, ◌++◌, take}
use Rattle.std.specs.Prelude.{flat_map}
use Rattle.agreement.specs.Entries.{placed}
use Rattle.agreement.proofs.tables.add_entries_for.Given as goal

abbrev pub invariant-loop-part : goal.invariant-loop-part
invariant-loop-part l = l.entries ≡ l.initial.entries ++ flat_map (placed l.setting.wiring l.site l.x.outside)
    (take l.part-index l.part-items)
