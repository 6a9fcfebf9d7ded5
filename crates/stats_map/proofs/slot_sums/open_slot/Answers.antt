use Rattle.std.proofs.Common.{rules, ◌≡◌, refl, Bool, true, sym, ap, subst, ◌∙◌, true≢false}
use Rattle.std.specs.Prelude.{Option, Some, None, is_some, not}
use Rattle.std.specs.BTreeMap.{is_at}
use Rattle.std.specs.Map.{set_value}
use Rattle.cv_io.specs.Leaves.{leaf_cmp}
use Rattle.stats_map.specs.InsideSums.{HaveMore, sum_at}
use Rattle.stats_map.specs.Pending.{LeafSlots, slot_sums}
use Rattle.stats_map.specs.declared.sum.Sum.{Sum}
use Rattle.stats_map.proofs.Adding.{more-none}
use Rattle.stats_map.proofs.SlotSums.{opened-at, slot-is, written-same, written-there}
use Rattle.stats_map.proofs.slot_sums.open_slot.Goals as goal

none-of : (o : Option Sum) (r : Bool) → is_some o ≡ not r → r ≡ true → o ≡ None
none-of None r e t = refl
none-of (Some s) r e t = absurd (true≢false (e ∙ ap not t))

pub returns-then-is_none-clause-more : goal.returns-then-is_none-clause-more
returns-then-is_none-clause-more c =
    let old = c.args.slots.now.entries in
    let w = Some c.new.result in
    let new = (c.get_mut.follows.lender w).entries in
    let is : new ≡ set_value (is_at (leaf_cmp c.args.leaf.now)) old w = search rules in
    opened-at c.args.leaf.now c.in-Some.slot.now w old new (sym c.in-Some.ensures.value) is c.new.result
    (none-of c.in-Some.slot.now c.is_none.result c.is_none.ensures c.if-is_none.true) refl c.new.ensures

pub returns-then-is_none-clause-there : goal.returns-then-is_none-clause-there
returns-then-is_none-clause-there c has =
    let old = c.args.slots.now.entries in
    let w = Some c.new.result in
    let new = (c.get_mut.follows.lender w).entries in
    let is : new ≡ set_value (is_at (leaf_cmp c.args.leaf.now)) old w = search rules in
    written-there c.args.leaf.now c.in-Some.slot.now w old new (sym c.in-Some.ensures.value) is c.new.result refl

pub returns-else-is_none-clause-more : goal.returns-else-is_none-clause-more
returns-else-is_none-clause-more c =
    let old = c.args.slots.now.entries in
    let new = (c.get_mut.follows.lender c.in-Some.slot.now).entries in
    let is : new ≡ set_value (is_at (leaf_cmp c.args.leaf.now)) old c.in-Some.slot.now = search rules in
    let same = written-same c.args.leaf.now c.in-Some.slot.now c.in-Some.slot.now old new (sym c.in-Some.ensures.value)
    is refl in
    subst (λ (slots : LeafSlots). HaveMore (slot_sums old) (slot_sums slots)) (sym same) (more-none (slot_sums old))

pub returns-else-is_none-clause-there : goal.returns-else-is_none-clause-there
returns-else-is_none-clause-there c has =
    let old = c.args.slots.now.entries in
    let new = (c.get_mut.follows.lender c.in-Some.slot.now).entries in
    let is : new ≡ set_value (is_at (leaf_cmp c.args.leaf.now)) old c.in-Some.slot.now = search rules in
    let same = written-same c.args.leaf.now c.in-Some.slot.now c.in-Some.slot.now old new (sym c.in-Some.ensures.value)
    is refl in
    ap is_some (ap (λ (slots : LeafSlots). sum_at c.args.leaf.now (slot_sums slots)) same
    ∙ slot-is old c.args.leaf.now c.in-Some.slot.now (sym c.in-Some.ensures.value))
    ∙ (c.is_none.ensures ∙ ap not c.if-is_none.false)
