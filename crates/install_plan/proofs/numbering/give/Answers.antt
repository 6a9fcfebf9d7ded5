use Rattle.std.proofs.Common.{rules, ◌≡◌, List, ap, ◌∙◌}
use Rattle.std.specs.BTreeMap.{is_at}
use Rattle.std.specs.Map.{set_value}
use Rattle.switch_meaning.specs.declared.entry.PhysEntry.{PhysEntry}
use Rattle.install_plan.specs.InsideNumbering.{entries_at, entries_of}
use Rattle.install_plan.specs.InsideSlots.{key_of, order}
use Rattle.install_plan.specs.declared.key.Key.{Key}
use Rattle.install_plan.specs.declared.slot.Slot.{Slot}
use Rattle.install_plan.proofs.numbering.give.Goals as goal

pub returns-in-Some : goal.returns-in-Some
returns-in-Some c =
    let new : Slot = record { entries = c.in-Some.slot.now.entries; cookie = c.args.written.now.cookie } in
    let slots = c.args.slots.now.entries in
    let w : (c.get_mut.follows.lender new).entries ≡ set_value (is_at (order c.of.result)) slots new = search rules in
    let entries = ap entries_of c.in-Some.ensures.value ∙ ap (entries_at slots) c.of.ensures.value in
    w
    ∙ (ap (λ (z : Key). set_value (is_at (order z)) slots new) c.of.ensures.value
    ∙ ap (λ (es : List PhysEntry). set_value (is_at (order (key_of c.args.written.now.entry))) slots
    (record { entries = es; cookie = c.args.written.now.cookie })) entries)
