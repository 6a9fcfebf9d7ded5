use Rattle.std.proofs.Common.{◌≡◌, ◌<◌, ◌^◌, true, List, length, refl, sym, ap, subst, ◌∙◌}
use Rattle.std.specs.Prelude.{is_some}
use Rattle.std.specs.List.{list_any}
use Rattle.cv_io.specs.Leaves.{leaf_cmp, same_leaf}
use Rattle.cv_io.specs.declared.leaf.Leaf.{Leaf}
use Rattle.switch_meaning.specs.Counts.{Cookie}
use Rattle.stats_map.specs.Counting.{Cookies, place_cmp}
use Rattle.stats_map.specs.InsideSums.{Sums}
use Rattle.stats_map.specs.Overlay.{now_of}
use Rattle.stats_map.specs.Slots.{AreDrawn, slot_or, value_at}
use Rattle.stats_map.specs.Pending.{HaveSlots}
use Rattle.stats_map.specs.Told.{told}
use Rattle.stats_map.proofs.Adding.{on-err}
use Rattle.stats_map.proofs.Drafting.{named-laid, named-same}
use Rattle.stats_map.proofs.Laying.{begun-allowed, begun-have, begun-summed, begun-told}
use Rattle.stats_map.proofs.Overlays.{at-laid}
use Rattle.stats_map.proofs.Rows.{installed-already, place_total}
use Rattle.stats_map.proofs.overlay.Overlay.begin.Goals as goal

-- a cookie of which nothing was reported
abbrev made : List Leaf → Cookie
made ancestry = record { ancestry = ancestry; numbers = record { packets = 0; bytes = 0 } }

pub returns-in-Some-clause-begun : goal.returns-in-Some-clause-begun
returns-in-Some-clause-begun c =
    let o = c.args.self.now in
    let base =
    ap (λ (cookies : Cookies). slot_or (value_at place_cmp c.args.place o.live.entries)
    (value_at place_cmp c.args.place cookies)) c.live.ensures.entries in
    installed-already c.args.place c.args.ancestry.now (told (now_of o))
    (ap is_some (at-laid place_total o.live.entries o.base.now.live c.requires.ordered.places c.args.place
    ∙ (sym base ∙ sym c.in-Some.ensures)))

pub returns-in_err-draw_leaves-clause-laid : goal.returns-in_err-draw_leaves-clause-laid
returns-in_err-draw_leaves-clause-laid c =
    let o = c.args.self.now in
    let drawn = subst (λ (base : Sums). AreDrawn leaf_cmp base o.sums.entries c.draw_leaves.new.slots.entries)
    c.sums.ensures.entries c.draw_leaves.ensures.drawn in
    named-laid o (record o { sums = c.draw_leaves.new.slots }) c.requires refl refl drawn

pub returns-in_err-draw_leaves-clause-memory : goal.returns-in_err-draw_leaves-clause-memory
returns-in_err-draw_leaves-clause-memory c =
    let o = c.args.self.now in
    let drawn = subst (λ (base : Sums). AreDrawn leaf_cmp base o.sums.entries c.draw_leaves.new.slots.entries)
    c.sums.ensures.entries c.draw_leaves.ensures.drawn in
    on-err c.from_residual.result _
    (named-same o (record o { sums = c.draw_leaves.new.slots }) c.requires refl refl drawn)

pub returns-in_err-copy-clause-laid : goal.returns-in_err-copy-clause-laid
returns-in_err-copy-clause-laid c =
    let o = c.args.self.now in
    let drawn = subst (λ (base : Sums). AreDrawn leaf_cmp base o.sums.entries c.draw_leaves.new.slots.entries)
    c.sums.ensures.entries c.draw_leaves.ensures.drawn in
    named-laid o (record o { sums = c.draw_leaves.new.slots }) c.requires refl refl drawn

pub returns-in_err-copy-clause-memory : goal.returns-in_err-copy-clause-memory
returns-in_err-copy-clause-memory c =
    let o = c.args.self.now in
    let drawn = subst (λ (base : Sums). AreDrawn leaf_cmp base o.sums.entries c.draw_leaves.new.slots.entries)
    c.sums.ensures.entries c.draw_leaves.ensures.drawn in
    on-err c.from_residual-in_err-copy.result _
    (named-same o (record o { sums = c.draw_leaves.new.slots }) c.requires refl refl drawn)

pub returns-in_err-insert-clause-laid : goal.returns-in_err-insert-clause-laid
returns-in_err-insert-clause-laid c =
    let o = c.args.self.now in
    let drawn = subst (λ (base : Sums). AreDrawn leaf_cmp base o.sums.entries c.draw_leaves.new.slots.entries)
    c.sums.ensures.entries c.draw_leaves.ensures.drawn in
    named-laid o (record o { live = c.insert.new.self; sums = c.draw_leaves.new.slots }) c.requires refl
    c.in_err-insert.ensures.err drawn

pub returns-in_err-insert-clause-memory : goal.returns-in_err-insert-clause-memory
returns-in_err-insert-clause-memory c =
    let o = c.args.self.now in
    let drawn = subst (λ (base : Sums). AreDrawn leaf_cmp base o.sums.entries c.draw_leaves.new.slots.entries)
    c.sums.ensures.entries c.draw_leaves.ensures.drawn in
    on-err c.from_residual-in_err-insert.result _
    (named-same o (record o { live = c.insert.new.self; sums = c.draw_leaves.new.slots }) c.requires refl
    c.in_err-insert.ensures.err drawn)

pub change_slots-requires : goal.change_slots-requires
change_slots-requires c =
    let o = c.args.self.now in
    let drawn = subst (λ (base : Sums). AreDrawn leaf_cmp base o.sums.entries c.draw_leaves.new.slots.entries)
    c.sums.ensures.entries c.draw_leaves.ensures.drawn in
    let slice = c.as_slice-3.result.now in
    let base =
    ap (λ (cookies : Cookies). slot_or (value_at place_cmp c.args.place o.live.entries)
    (value_at place_cmp c.args.place cookies)) c.live.ensures.entries in
    let none = sym base ∙ sym c.in_default.ensures in
    let slots = subst (λ (xs : List Leaf). HaveSlots xs c.draw_leaves.new.slots.entries)
    (c.as_slice.ensures ∙ sym c.as_slice-3.ensures) c.in_ok-draw_leaves.ensures.there in
    begun-allowed o.base.now c.requires.ordered.places c.requires.ordered.leaves o.live.entries o.sums.entries
    c.requires.summed c.requires.slots c.args.place c.args.ancestry.now slice c.as_slice-3.ensures none
    c.draw_leaves.new.slots.entries drawn slots c.open_slots.new.slots.entries c.open_slots.ensures.more
    c.open_slots.ensures.keys
    (subst (λ n. n < 2 ^ 63) (c.len-standing.ensures.len ∙ ap length c.live-2.ensures.entries)
    c.len-standing.ensures.small)
    (subst (λ n. n < 2 ^ 63) c.len-changed.ensures.len c.len-changed.ensures.small)

pub returns-clause-laid : goal.returns-clause-laid
returns-clause-laid c =
    let o = c.args.self.now in
    let drawn = subst (λ (base : Sums). AreDrawn leaf_cmp base o.sums.entries c.draw_leaves.new.slots.entries)
    c.sums.ensures.entries c.draw_leaves.ensures.drawn in
    let slice = c.as_slice-3.result.now in
    let base =
    ap (λ (cookies : Cookies). slot_or (value_at place_cmp c.args.place o.live.entries)
    (value_at place_cmp c.args.place cookies)) c.live.ensures.entries in
    let none = sym base ∙ sym c.in_default.ensures in
    let slots = subst (λ (xs : List Leaf). HaveSlots xs c.draw_leaves.new.slots.entries)
    (c.as_slice.ensures ∙ sym c.as_slice-3.ensures) c.in_ok-draw_leaves.ensures.there in
    let there = λ (q : Leaf) (t : list_any (same_leaf q) slice ≡ true). c.open_slots.ensures.there q
    (ap (λ (xs : List Leaf). list_any (same_leaf q) xs) (c.as_slice-2.ensures ∙ sym c.as_slice-3.ensures) ∙ t) in
    let fresh = c.new-row.ensures ∙ ap made c.in_ok-copy.ensures in
    record {
      ordered = c.requires.ordered;
      summed = begun-summed o.base.now c.requires.ordered.places c.requires.ordered.leaves o.live.entries o.sums.entries
          c.requires.summed c.requires.slots c.args.place c.args.ancestry.now slice c.as_slice-3.ensures none
          c.draw_leaves.new.slots.entries drawn slots c.open_slots.new.slots.entries c.open_slots.ensures.more
          c.open_slots.ensures.keys
          there c.new-row.result fresh c.insert.new.self.entries c.in_ok-insert.ensures.updates.0
          c.change_slots.new.slots.entries c.change_slots.ensures.keys c.change_slots.ensures.sums;
      slots = begun-have o.base.now c.requires.ordered.places c.requires.ordered.leaves o.live.entries o.sums.entries
          c.requires.summed c.requires.slots c.args.place c.args.ancestry.now slice c.as_slice-3.ensures none
          c.draw_leaves.new.slots.entries drawn slots c.open_slots.new.slots.entries c.open_slots.ensures.more
          c.open_slots.ensures.keys
          there c.new-row.result fresh c.insert.new.self.entries c.in_ok-insert.ensures.updates.0
          c.change_slots.new.slots.entries c.change_slots.ensures.keys c.change_slots.ensures.sums;
    }

pub returns-clause-begun : goal.returns-clause-begun
returns-clause-begun c =
    let o = c.args.self.now in
    let drawn = subst (λ (base : Sums). AreDrawn leaf_cmp base o.sums.entries c.draw_leaves.new.slots.entries)
    c.sums.ensures.entries c.draw_leaves.ensures.drawn in
    let slice = c.as_slice-3.result.now in
    let base =
    ap (λ (cookies : Cookies). slot_or (value_at place_cmp c.args.place o.live.entries)
    (value_at place_cmp c.args.place cookies)) c.live.ensures.entries in
    let none = sym base ∙ sym c.in_default.ensures in
    let slots = subst (λ (xs : List Leaf). HaveSlots xs c.draw_leaves.new.slots.entries)
    (c.as_slice.ensures ∙ sym c.as_slice-3.ensures) c.in_ok-draw_leaves.ensures.there in
    let there = λ (q : Leaf) (t : list_any (same_leaf q) slice ≡ true). c.open_slots.ensures.there q
    (ap (λ (xs : List Leaf). list_any (same_leaf q) xs) (c.as_slice-2.ensures ∙ sym c.as_slice-3.ensures) ∙ t) in
    let fresh = c.new-row.ensures ∙ ap made c.in_ok-copy.ensures in
    begun-told o.base.now c.requires.ordered.places c.requires.ordered.leaves o.live.entries o.sums.entries
    c.requires.summed c.requires.slots c.args.place c.args.ancestry.now slice c.as_slice-3.ensures none
    c.draw_leaves.new.slots.entries drawn slots c.open_slots.new.slots.entries c.open_slots.ensures.more
    c.open_slots.ensures.keys
    there c.new-row.result fresh c.insert.new.self.entries c.in_ok-insert.ensures.updates.0
    c.change_slots.new.slots.entries c.change_slots.ensures.keys c.change_slots.ensures.sums
