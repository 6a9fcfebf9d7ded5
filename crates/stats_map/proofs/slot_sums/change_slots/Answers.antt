use Rattle.std.proofs.Common.{get_or, take, sym, ◌∙◌}
use Rattle.std.specs.List.{list_any}
use Rattle.std.proofs.lemmas.List.{get_or_default}
use Rattle.cv_io.specs.Leaves.{same_leaf}
use Rattle.cv_io.specs.declared.leaf.Leaf.{Leaf}
use Rattle.stats_map.specs.Pending.{slot_sums}
use Rattle.stats_map.proofs.Happening.{happened-again, happened-first, is-allowed, not-false, not-true}
use Rattle.stats_map.proofs.slot_sums.change_slots.Goals as goal
use Rattle.stats_map.proofs.slot_sums.change_slots.Goals.{then-is_first, else-is_first}

abbrev no_leaf : Leaf
no_leaf = record { member = 0; kind = 0 }

pub change_slot-requires : goal.change_slot-requires
change_slot-requires c =
    let xs = c.args.leaves.now in
    let i = c.loop-place.place in
    let x = get_or xs i no_leaf in
    let none = not-true (list_any (same_leaf x) (take i xs)) (sym (c.is_first.ensures no_leaf) ∙ c.if-is_first.true) in
    is-allowed c.args.event.now xs i x c.loop-place-test.true (get_or_default xs i no_leaf x c.loop-place-test.true)
    (slot_sums c.args.slots.now.entries) (slot_sums c.loop-place.slots.entries) c.loop-place.invariant.0 c.requires
    none

pub loop-place-preserved : goal.loop-place-preserved
loop-place-preserved c =
    let xs = c.args.leaves.now in
    let i = c.loop-place.place in
    let x = get_or xs i no_leaf in
    let is = get_or_default xs i no_leaf x c.loop-place-test.true in
    elim c.if-is_first.branch [
      | then-is_first w ↦
          (let none = not-true (list_any (same_leaf x) (take i xs))
          (sym (c.is_first.ensures no_leaf) ∙ w.if-is_first.true) in
          rw w.slots-is (
            happened-first c.args.event.now xs i x c.loop-place-test.true is
                (slot_sums c.args.slots.now.entries) (slot_sums c.loop-place.slots.entries) c.loop-place.invariant.0
                (slot_sums w.change_slot.new.slots.entries) none w.change_slot.ensures.sums,
            w.change_slot.ensures.keys
                ∙ c.loop-place.invariant.1,
          ))
      | else-is_first w ↦
          (let some = not-false (list_any (same_leaf x) (take i xs))
          (sym (c.is_first.ensures no_leaf) ∙ w.if-is_first.false) in
          rw w.slots-is (
            happened-again c.args.event.now xs i x c.loop-place-test.true is
                (slot_sums c.args.slots.now.entries) (slot_sums c.loop-place.slots.entries) c.loop-place.invariant.0
                some,
            c.loop-place.invariant.1,
          ))
    ]
