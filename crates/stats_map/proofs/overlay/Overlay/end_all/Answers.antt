use Rattle.std.proofs.Common.{◌+◌, List, drop, get_or, refl, subst, ◌∙◌}
use Rattle.std.proofs.lemmas.List.{drop_all, drop_more, get_or_default}
use Rattle.stats_map.specs.Counting.{Place}
use Rattle.stats_map.specs.Overlay.{now_of}
use Rattle.stats_map.specs.Told.{HeldOf, told}
use Rattle.stats_map.proofs.Downing.{AreLeft, left-all, left-next, left-none, listed-at, listed-has, listed-own}
use Rattle.stats_map.proofs.Overlays.{rise-laid}
use Rattle.stats_map.proofs.Rows.{at, place_total}
use Rattle.stats_map.proofs.SlotSums.{same-there}
use Rattle.stats_map.proofs.overlay.Overlay.end_all.Goals as goal

pub loop-place-init : goal.loop-place-init
loop-place-init c =
    let o = c.draw_switch.new.self in
    let xs = c.deref-place-items.result.now in (
      c.draw_switch.ensures.base,
      c.draw_switch.ensures.laid,
      refl,
      subst (λ (h : HeldOf). AreLeft c.args.switch xs (told (now_of o)) (told h)) c.draw_switch.ensures.same
          (left-all c.args.switch o xs (c.deref-place-items.ensures.value ∙ c.in_ok-places.ensures)
          c.len-slots.ensures.ordered c.in_ok-draw_switch.ensures.drawn),
    )

pub end_drawn-requires-clause-drawn : goal.end_drawn-requires-clause-drawn
end_drawn-requires-clause-drawn c =
    let none : Place = (0, 0) in
    let xs = c.deref-place-items.result.now in
    let i = c.loop-place.place-index in
    let x = get_or xs i none in
    let slots = c.draw_switch.new.self.live.entries in
    same-there (at x) slots c.loop-place.self.live.entries c.loop-place.invariant.2
    ∙ listed-has c.args.switch slots xs (c.deref-place-items.ensures.value ∙ c.in_ok-places.ensures) x
    (listed-at xs i x c.loop-place-test.true (get_or_default xs i none x c.loop-place-test.true))

pub loop-place-preserved : goal.loop-place-preserved
loop-place-preserved c =
    let none : Place = (0, 0) in
    let xs = c.deref-place-items.result.now in
    let i = c.loop-place.place-index in
    let x = get_or xs i none in
    let o = c.loop-place.self in
    let start = told (now_of c.args.self.now) in
    let own = listed-own c.args.switch c.draw_switch.new.self.live.entries xs
    (c.deref-place-items.ensures.value ∙ c.in_ok-places.ensures) x
    (listed-at xs i x c.loop-place-test.true (get_or_default xs i none x c.loop-place-test.true)) in
    let rise = rise-laid place_total o.live.entries o.base.now.live c.loop-place.invariant.1.ordered.places in
    let left = subst (λ (ys : List Place). AreLeft c.args.switch ys (told (now_of o)) start)
    (drop_more xs i none c.loop-place-test.true) c.loop-place.invariant.3 in (
      c.end_drawn.ensures.base ∙ c.loop-place.invariant.0,
      c.end_drawn.ensures.laid,
      c.end_drawn.ensures.keys ∙ c.loop-place.invariant.2,
      left-next c.args.switch x (drop (i + 1) xs) (told (now_of o)) (told (now_of c.end_drawn.new.self)) start rise own
          c.end_drawn.ensures.ended left,
    )

pub returns-clause-ended : goal.returns-clause-ended
returns-clause-ended c =
    let s = told (now_of c.loop-place.self) in
    let start = told (now_of c.args.self.now) in
    left-none c.args.switch s start
    (subst (λ (ys : List Place). AreLeft c.args.switch ys s start)
    (drop_all c.loop-place.place-index c.deref-place-items.result.now c.loop-place-test.false)
    c.loop-place.invariant.3)
