use Rattle.std.proofs.Common.{get_or, ◌∙◌}
use Rattle.std.specs.Prelude.{IsSome}
use Rattle.std.proofs.lemmas.List.{get_or_default}
use Rattle.cv_io.specs.declared.leaf.Leaf.{Leaf}
use Rattle.stats_map.specs.InsideSums.{sum_at}
use Rattle.stats_map.specs.Pending.{slot_sums}
use Rattle.stats_map.proofs.Adding.{more-more, still-some}
use Rattle.stats_map.proofs.Happening.{any-at, one-more-have}
use Rattle.stats_map.proofs.SlotSums.{slots-kept}
use Rattle.stats_map.proofs.slot_sums.open_slots.Goals as goal

pub loop-leaf-preserved : goal.loop-leaf-preserved
loop-leaf-preserved c =
    let none : Leaf = record { member = 0; kind = 0 } in
    let xs = c.args.leaves.now in
    let i = c.loop-leaf.leaf-index in
    let x = get_or xs i none in
    let is = get_or_default xs i none x c.loop-leaf-test.true in
    let now = slot_sums c.loop-leaf.slots.entries in
    let new = slot_sums c.open_slot.new.slots.entries in
    let has = slots-kept xs c.args.slots.now.entries c.loop-leaf.slots.entries c.loop-leaf.invariant.1 c.requires x
    (any-at xs i x c.loop-leaf-test.true is) in (
      more-more (slot_sums c.args.slots.now.entries) now new c.loop-leaf.invariant.0 c.open_slot.ensures.more,
      c.open_slot.ensures.keys ∙ c.loop-leaf.invariant.1,
      one-more-have xs i x (λ q. IsSome (sum_at q now)) (λ q. IsSome (sum_at q new)) c.loop-leaf-test.true is
          (λ q t. still-some now new q c.open_slot.ensures.more t) (c.open_slot.ensures.there has)
          c.loop-leaf.invariant.2,
    )
