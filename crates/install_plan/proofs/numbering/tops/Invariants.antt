use Rattle.std.proofs.Common.{◌≡◌, ◌++◌}
use Rattle.std.specs.Prelude.{flat_map, option_to_list}
use Rattle.std.specs.Map.{values_of}
use Rattle.install_plan.specs.InsideNumbering.{head}
use Rattle.install_plan.specs.Tables.{numbered}
use Rattle.install_plan.specs.declared.slot.Slot.{Slot}
use Rattle.install_plan.proofs.numbering.tops.Given as goal

abbrev pub invariant-loop-slot : goal.invariant-loop-slot
invariant-loop-slot l =
    l.adds ++ numbered l.cookie (flat_map (λ (s : Slot). option_to_list (head s.entries)) l.slot-iterator)
    ≡ numbered l.next (flat_map (λ (s : Slot). option_to_list (head s.entries)) (values_of l.slots.entries))
