use Rattle.std.proofs.Common.{List, ◌++◌, sym, ap, ◌∙◌, append-nil}
use Rattle.std.specs.Prelude.{flat_map, option_to_list}
use Rattle.install_plan.specs.InsideNumbering.{head}
use Rattle.install_plan.specs.InsideSlots.{as_is}
use Rattle.install_plan.specs.Tables.{numbered}
use Rattle.install_plan.specs.declared.key.Key.{Key}
use Rattle.install_plan.specs.declared.slot.Slot.{Slot}
use Rattle.install_plan.proofs.Batched.{heads-stand}
use Rattle.install_plan.proofs.Flat.{flat-mapped}
use Rattle.install_plan.proofs.numbering.tops.Goals as goal

pub returns : goal.returns
returns c =
    let heads = λ (s : Slot). option_to_list (head s.entries) in
    let last = ap (λ (z : List Slot). c.loop-slot.adds ++ numbered c.loop-slot.cookie (flat_map heads z))
    (sym c.in-None.ensures.steps.0) in
    let all = flat-mapped heads (λ (p : Key × Slot). p.1) c.args.slots.now.entries
    ∙ sym (heads-stand as_is c.args.slots.now.entries) in
    sym (append-nil c.loop-slot.adds) ∙ (last ∙ (c.loop-slot.invariant ∙ ap (numbered c.args.next) all))
