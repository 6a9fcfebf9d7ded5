use Rattle.std.proofs.Common.{◌≡◌, List, get_or, sym, ap, ◌∙◌}
use Rattle.std.specs.Prelude.{true}
use Rattle.std.specs.List.{list_any}
use Rattle.std.proofs.lemmas.List.{get_or_default, take_all}
use Rattle.stats_map.specs.Counting.{Place}
use Rattle.stats_map.specs.Told.{HeldOf}
use Rattle.stats_map.proofs.Downing.{one-more-place, switch-drawn}
use Rattle.stats_map.proofs.Rows.{at}
use Rattle.stats_map.proofs.overlay.Overlay.draw_switch.Goals as goal

pub loop-place-preserved : goal.loop-place-preserved
loop-place-preserved c =
    let none : Place = (0, 0) in
    let xs = c.deref-place-items.result.now in
    let i = c.loop-place.place-index in
    let x = get_or xs i none in (
      c.draw_place.ensures.base ∙ c.loop-place.invariant.0,
      c.draw_place.ensures.same ∙ c.loop-place.invariant.1,
      c.draw_place.ensures.laid,
      one-more-place xs i x c.loop-place.self c.draw_place.new.self c.loop-place-test.true
          (get_or_default xs i none x c.loop-place-test.true) c.draw_place.ensures.stay c.in_ok-draw_place.ensures.there
          c.loop-place.invariant.3,
    )

pub returns-clause-drawn : goal.returns-clause-drawn
returns-clause-drawn c =
    let xs = c.deref-place-items.result.now in
    let all = λ (q : Place) (t : list_any (at q) xs ≡ true). c.loop-place.invariant.3 q
    (ap (λ (ys : List Place). list_any (at q) ys) (take_all c.loop-place.place-index xs c.loop-place-test.false)
    ∙ t) in
    switch-drawn c.args.switch c.loop-place.self xs c.live.result.now.entries
    (c.deref-place-items.ensures.value ∙ c.in_ok-places.ensures)
    (c.live.ensures.entries ∙ sym (ap (λ (h : HeldOf). h.live) c.loop-place.invariant.0))
    c.loop-place.invariant.2.ordered.places all
