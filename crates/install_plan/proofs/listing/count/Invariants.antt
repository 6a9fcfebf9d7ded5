use Rattle.std.proofs.Common.{◌≡◌, ◌+◌, ◌≤◌, length}
use Rattle.std.specs.Prelude.{flat_map, option_to_list}
use Rattle.std.specs.Map.{values_of}
use Rattle.install_plan.specs.InsideSlots.{top}
use Rattle.install_plan.specs.declared.slot.Slot.{Slot}
use Rattle.install_plan.proofs.listing.count.Given as goal

abbrev pub invariant-loop-slot : goal.invariant-loop-slot
invariant-loop-slot l =
    (l.count + length (flat_map (λ (s : Slot). option_to_list (top s)) l.slot-iterator)
    ≡ length (flat_map (λ (s : Slot). option_to_list (top s)) (values_of l.slots.entries)))
    × (l.count + length l.slot-iterator ≤ length (values_of l.slots.entries))
