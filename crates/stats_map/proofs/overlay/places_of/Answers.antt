use Rattle.std.proofs.Common.{◌∙◌}
use Rattle.std.specs.Map.{keys_of}
use Rattle.stats_map.proofs.Listing.{left-first, left-next, left-past}
use Rattle.stats_map.proofs.Switches.{part_of}
use Rattle.stats_map.proofs.overlay.places_of.Goals as goal

pub loop-place-init : goal.loop-place-init
loop-place-init g c = (
  tt,
  tt,
  left-first c.args.switch c.args.map.now.entries c.into_iter-place-iterator.result c.new-places.result.items
      c.new-places.ensures.items
      (c.into_iter-place-iterator.ensures.into_iter_gives ∙ c.range-place-items.ensures.between tt)
      c.range-place-items.ensures.ordered,
)

pub returns-then-place-switch : goal.returns-then-place-switch
returns-then-place-switch g c =
    left-past c.args.switch (keys_of (part_of c.args.switch c.args.map.now.entries)) c.loop-place.places.items
    c.loop-place.place-iterator c.next.new.self c.in-Some.place.now c.in-Some.field-0-1.now
    c.in-Some.ensures.steps c.loop-place.invariant.2 c.if-place-switch.true

pub loop-place-preserved : goal.loop-place-preserved
loop-place-preserved g c = (
  tt,
  tt,
  left-next c.args.switch (keys_of (part_of c.args.switch c.args.map.now.entries)) c.loop-place.places.items
      c.loop-place.place-iterator c.next.new.self c.in-Some.place.now c.in-Some.field-0-1.now
      c.in-Some.ensures.steps c.loop-place.invariant.2 c.push.new.self.items c.in_ok-push.ensures.items
      c.if-place-switch.false,
)
