use Rattle.std.proofs.Common.{◌≡◌, ◌⊎◌}
use Rattle.std.specs.Prelude.{IsSome, Some}
use Rattle.std.specs.List.{AllByRecursion}
use Rattle.switch_meaning.proofs.Members.{IsIn}
use Rattle.install_plan.specs.InsideSlots.{AreKept, as_saved, slot_at, table_by}
use Rattle.install_plan.specs.declared.key.Key.{Key}
use Rattle.install_plan.specs.declared.slot.Slot.{Slot}
use Rattle.install_plan.proofs.slots.save_all.Given as goal

abbrev pub invariant-loop-key : goal.invariant-loop-key
invariant-loop-key l =
    AreKept l.slots.entries l.saved.entries
    × (table_by (as_saved l.saved.entries) l.slots.entries
    ≡ table_by (as_saved l.initial.saved.entries) l.slots.entries)
    × AllByRecursion (λ (p : Key × Slot). slot_at p.0 l.slots.entries ≡ Some p.1) l.key-iterator
    × ((p : Key × Slot) → IsIn p l.slots.entries → IsSome (slot_at p.0 l.saved.entries) ⊎ IsIn p l.key-iterator)
