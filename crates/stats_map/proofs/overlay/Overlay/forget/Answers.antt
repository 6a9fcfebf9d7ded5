use Rattle.std.proofs.Common.{refl, subst}
use Rattle.cv_io.specs.Leaves.{leaf_cmp}
use Rattle.stats_map.specs.InsideSums.{Sums}
use Rattle.stats_map.specs.Slots.{AreDrawn}
use Rattle.stats_map.proofs.Adding.{on-err}
use Rattle.stats_map.proofs.Drafting.{named-laid, named-same}
use Rattle.stats_map.proofs.Laying.{drawn-all-have, forgotten-summed, forgotten-told, one-slot-has, slots-all-kept}
use Rattle.stats_map.proofs.overlay.Overlay.forget.Goals as goal

pub returns-in_err-draw-clause-laid : goal.returns-in_err-draw-clause-laid
returns-in_err-draw-clause-laid c =
    let o = c.args.self.now in
    let drawn = subst (λ (base : Sums). AreDrawn leaf_cmp base o.sums.entries c.draw.new.slots.entries)
    c.sums.ensures.entries c.draw.ensures.drawn in
    named-laid o (record o { sums = c.draw.new.slots }) c.requires refl refl drawn

pub returns-in_err-draw-clause-memory : goal.returns-in_err-draw-clause-memory
returns-in_err-draw-clause-memory c =
    let o = c.args.self.now in
    let drawn = subst (λ (base : Sums). AreDrawn leaf_cmp base o.sums.entries c.draw.new.slots.entries)
    c.sums.ensures.entries c.draw.ensures.drawn in
    on-err c.from_residual.result _ (named-same o (record o { sums = c.draw.new.slots }) c.requires refl refl drawn)

pub returns-clause-laid : goal.returns-clause-laid
returns-clause-laid c =
    let o = c.args.self.now in
    let leaf = c.args.leaf.now in
    let leaves1 = c.draw.new.slots.entries in
    let leaves2 = c.change_slots.new.slots.entries in
    let drawn = subst (λ (base : Sums). AreDrawn leaf_cmp base o.sums.entries leaves1) c.sums.ensures.entries
    c.draw.ensures.drawn in record {
      ordered = c.requires.ordered;
      summed =
          forgotten-summed o.base.now c.requires.ordered.places c.requires.ordered.leaves o.live.entries o.sums.entries
          c.requires.summed c.requires.slots leaf leaves1 leaves2 drawn
          (one-slot-has leaf leaves1 c.in_ok-draw.ensures.there) c.change_slots.ensures.keys
          c.change_slots.ensures.sums;
      slots =
          slots-all-kept o.live.entries leaves1 leaves2 c.change_slots.ensures.keys
          (drawn-all-have o.base.now.sums o.live.entries o.sums.entries leaves1 drawn c.requires.slots);
    }

pub returns-clause-forgot : goal.returns-clause-forgot
returns-clause-forgot c =
    let o = c.args.self.now in
    let leaf = c.args.leaf.now in
    let leaves1 = c.draw.new.slots.entries in
    let drawn = subst (λ (base : Sums). AreDrawn leaf_cmp base o.sums.entries leaves1) c.sums.ensures.entries
    c.draw.ensures.drawn in
    forgotten-told o.base.now c.requires.ordered.places c.requires.ordered.leaves o.live.entries o.sums.entries
    c.requires.summed c.requires.slots leaf leaves1 c.change_slots.new.slots.entries drawn
    (one-slot-has leaf leaves1 c.in_ok-draw.ensures.there) c.change_slots.ensures.keys c.change_slots.ensures.sums
