use Rattle.std.proofs.Common.{◌≡◌, ◌++◌}
use Rattle.std.specs.Prelude.{flat_map, option_to_list}
use Rattle.std.specs.Map.{values_of}
use Rattle.install_plan.specs.InsideSlots.{top}
use Rattle.install_plan.specs.declared.slot.Slot.{Slot}
use Rattle.install_plan.proofs.listing.listed.Given as goal

abbrev pub invariant-loop-slot : goal.invariant-loop-slot
invariant-loop-slot l =
    l.list ++ flat_map (λ (s : Slot). option_to_list (top s)) l.slot-iterator
    ≡ flat_map (λ (s : Slot). option_to_list (top s)) (values_of l.slots.entries)
