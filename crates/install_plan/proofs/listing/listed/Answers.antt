use Rattle.std.proofs.Common.{List, ◌++◌, sym, ap, ◌∙◌, append-nil}
use Rattle.std.specs.Prelude.{flat_map, option_to_list}
use Rattle.install_plan.specs.InsideSlots.{top}
use Rattle.install_plan.specs.declared.key.Key.{Key}
use Rattle.install_plan.specs.declared.slot.Slot.{Slot}
use Rattle.install_plan.proofs.Flat.{flat-mapped}
use Rattle.install_plan.proofs.listing.listed.Goals as goal

pub returns : goal.returns
returns c =
    let tops = λ (s : Slot). option_to_list (top s) in
    let last = ap (λ (z : List Slot). c.loop-slot.list ++ flat_map tops z) (sym c.in-None.ensures.steps.0) in
    sym (append-nil c.loop-slot.list)
    ∙ (last ∙ (c.loop-slot.invariant ∙ flat-mapped tops (λ (p : Key × Slot). p.1) c.args.slots.now.entries))
