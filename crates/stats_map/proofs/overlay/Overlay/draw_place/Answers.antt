use Rattle.std.proofs.Common.{refl, sym, subst, ◌∙◌}
use Rattle.stats_map.specs.Counting.{place_cmp}
use Rattle.stats_map.specs.Slots.{HasKey}
use Rattle.stats_map.specs.Pending.{PlaceSlots}
use Rattle.stats_map.proofs.Drafting.{named-laid, named-same, place-laid, place-same}
use Rattle.stats_map.proofs.Drawing.{drawn-key}
use Rattle.stats_map.proofs.Rows.{place_total}
use Rattle.stats_map.proofs.overlay.Overlay.draw_place.Goals as goal

pub returns-in_err-draw_named-clause-same : goal.returns-in_err-draw_named-clause-same
returns-in_err-draw_named-clause-same c = named-same c.args.self.now c.draw_named.new.self c.requires
    c.draw_named.ensures.base c.draw_named.ensures.live c.draw_named.ensures.drawn

pub returns-in_err-draw_named-clause-laid : goal.returns-in_err-draw_named-clause-laid
returns-in_err-draw_named-clause-laid c = named-laid c.args.self.now c.draw_named.new.self c.requires
    c.draw_named.ensures.base c.draw_named.ensures.live c.draw_named.ensures.drawn

pub returns-clause-same : goal.returns-clause-same
returns-clause-same c =
    let o = c.draw_named.new.self in
    let laid = named-laid c.args.self.now o c.requires c.draw_named.ensures.base c.draw_named.ensures.live
    c.draw_named.ensures.drawn in
    place-same o (record o { live = c.draw.new.slots }) c.args.place.now laid refl refl c.live.result.now.entries
    c.live.ensures.entries c.draw.ensures.drawn c.draw.ensures.other c.in_ok-draw_named.ensures.named
    ∙ named-same c.args.self.now o c.requires c.draw_named.ensures.base c.draw_named.ensures.live
    c.draw_named.ensures.drawn

pub returns-clause-laid : goal.returns-clause-laid
returns-clause-laid c =
    let o = c.draw_named.new.self in
    let laid = named-laid c.args.self.now o c.requires c.draw_named.ensures.base c.draw_named.ensures.live
    c.draw_named.ensures.drawn in
    place-laid o (record o { live = c.draw.new.slots }) c.args.place.now laid refl refl c.live.result.now.entries
    c.live.ensures.entries c.draw.ensures.drawn c.draw.ensures.other c.in_ok-draw_named.ensures.named

pub returns-clause-stay : goal.returns-clause-stay
returns-clause-stay c q t =
    let o = c.draw_named.new.self in
    drawn-key place_total c.live.result.now.entries o.live.entries c.draw.new.slots.entries c.draw.ensures.drawn q
    (subst (λ (places : PlaceSlots). HasKey place_cmp q places) (sym c.draw_named.ensures.live) t)
