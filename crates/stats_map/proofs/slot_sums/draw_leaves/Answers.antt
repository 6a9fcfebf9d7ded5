use Rattle.std.proofs.Common.{get_or}
use Rattle.std.proofs.lemmas.List.{get_or_default}
use Rattle.cv_io.specs.Leaves.{leaf_cmp}
use Rattle.cv_io.specs.declared.leaf.Leaf.{Leaf}
use Rattle.stats_map.specs.Slots.{HasKey}
use Rattle.stats_map.proofs.Drawing.{more-drawn}
use Rattle.stats_map.proofs.Happening.{one-more-have}
use Rattle.stats_map.proofs.Laying.{drawn-has}
use Rattle.stats_map.proofs.SlotSums.{leaf_total}
use Rattle.stats_map.proofs.slot_sums.draw_leaves.Goals as goal

pub loop-leaf-preserved : goal.loop-leaf-preserved
loop-leaf-preserved c =
    let none : Leaf = record { member = 0; kind = 0 } in
    let xs = c.args.leaves.now in
    let i = c.loop-leaf.leaf-index in
    let x = get_or xs i none in
    let base = c.args.base.now.entries in
    let now = c.loop-leaf.slots.entries in
    let new = c.draw.new.slots.entries in (
      more-drawn leaf_total base c.args.slots.now.entries now new c.loop-leaf.invariant.0 c.draw.ensures.drawn,
      one-more-have xs i x (λ q. HasKey leaf_cmp q now) (λ q. HasKey leaf_cmp q new) c.loop-leaf-test.true
          (get_or_default xs i none x c.loop-leaf-test.true) (drawn-has base now new c.draw.ensures.drawn)
          c.in_ok-draw.ensures.there c.loop-leaf.invariant.1,
    )

pub returns-in_err-draw-clause-drawn : goal.returns-in_err-draw-clause-drawn
returns-in_err-draw-clause-drawn c =
    more-drawn leaf_total c.args.base.now.entries c.args.slots.now.entries c.loop-leaf.slots.entries
    c.draw.new.slots.entries c.loop-leaf.invariant.0 c.draw.ensures.drawn
