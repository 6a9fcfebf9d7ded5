use Rattle.std.proofs.Common.{rules, ◌≡◌, refl, sym, ap, subst, ◌∙◌}
use Rattle.std.specs.Prelude.{IfSome, Option, option_and_then}
use Rattle.std.specs.BTreeMap.{is_at}
use Rattle.std.specs.Map.{set_value}
use Rattle.cv_io.specs.Leaves.{leaf_cmp}
use Rattle.stats_map.specs.InsideSums.{Allows, changed_by}
use Rattle.stats_map.specs.Pending.{HappenedAt, LeafSlots, slot_sums}
use Rattle.stats_map.specs.declared.sum.Sum.{Sum}
use Rattle.stats_map.proofs.SlotSums.{changed-at, no-slot, nothing-at, slot-is, written-same}
use Rattle.stats_map.proofs.slot_sums.change_slot.Goals as goal

pub returns-in_default-clause-sums : goal.returns-in_default-clause-sums
returns-in_default-clause-sums c =
    let old = c.args.slots.now.entries in
    let same : c.get_mut.follows.lender-at-none.entries ≡ old = search rules in
    subst (λ (slots : LeafSlots). HappenedAt c.args.event.now c.args.leaf.now (slot_sums old) (slot_sums slots))
    (sym same)
    (nothing-at c.args.event.now c.args.leaf.now (slot_sums old)
    (no-slot old c.args.leaf.now (sym c.in_default.ensures.value)))

pub returns-in_default-slot-clause-sums : goal.returns-in_default-slot-clause-sums
returns-in_default-slot-clause-sums c =
    let old = c.args.slots.now.entries in
    let new = (c.get_mut.follows.lender c.in-Some.slot.now).entries in
    let is : new ≡ set_value (is_at (leaf_cmp c.args.leaf.now)) old c.in-Some.slot.now = search rules in
    let same = written-same c.args.leaf.now c.in-Some.slot.now c.in-Some.slot.now old new (sym c.in-Some.ensures.value)
    is refl in
    subst (λ (slots : LeafSlots). HappenedAt c.args.event.now c.args.leaf.now (slot_sums old) (slot_sums slots))
    (sym same)
    (nothing-at c.args.event.now c.args.leaf.now (slot_sums old)
    (slot-is old c.args.leaf.now c.in-Some.slot.now (sym c.in-Some.ensures.value) ∙ c.in_default-slot.is))

pub after-requires : goal.after-requires
after-requires c =
    subst (λ (o : Option Sum). IfSome o (Allows c.args.event.now))
    (slot-is c.args.slots.now.entries c.args.leaf.now c.in-Some.slot.now (sym c.in-Some.ensures.value)
    ∙ c.in-Some-slot.is) c.requires

pub returns-clause-sums : goal.returns-clause-sums
returns-clause-sums c =
    let old = c.args.slots.now.entries in
    let new = (c.get_mut.follows.lender c.after.result).entries in
    let is : new ≡ set_value (is_at (leaf_cmp c.args.leaf.now)) old c.after.result = search rules in
    changed-at c.args.leaf.now c.in-Some.slot.now c.after.result old new (sym c.in-Some.ensures.value) is
    c.args.event.now
    (c.after.ensures ∙ sym (ap (option_and_then (changed_by c.args.event.now)) c.in-Some-slot.is))
