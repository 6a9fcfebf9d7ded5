use Rattle.std.proofs.Common.{refl, ◌∙◌}
use Rattle.incr_compile.proofs.Showings.{hidden-more, hidden-none}
use Rattle.incr_compile.proofs.showing.hide.Goals as goal

pub loop-id-init : goal.loop-id-init
loop-id-init c = record { items = hidden-none c.args.index.now.items; room = refl }

pub loop-id-preserved : goal.loop-id-preserved
loop-id-preserved c = record {
  items = hidden-more c.args.ids.now c.loop-id.id-index 0 _ c.args.index.now.items c.loop-id.index.items
      c.hide_one.new.index.items c.loop-id-test.true refl c.loop-id.invariant.items c.hide_one.ensures.items;
  room = c.hide_one.ensures.room ∙ c.loop-id.invariant.room;
}
