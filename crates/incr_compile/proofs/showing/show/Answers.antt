use Rattle.std.proofs.Common.{refl, arith}
use Rattle.incr_compile.specs.Showing.{shown_as}
use Rattle.incr_compile.proofs.Showings.{clear-more, clear-new, once-more, shown-more}
use Rattle.incr_compile.proofs.showing.show.Goals as goal

pub show_one-requires-clause-new_id : goal.show_one-requires-clause-new_id
show_one-requires-clause-new_id c = clear-new c.args.ids.now c.loop-id.id-index 0 _ c.loop-id.index.items
    c.loop-id-test.true refl c.loop-id.invariant.clear

pub loop-id-preserved : goal.loop-id-preserved
loop-id-preserved c =
    let by = shown_as c.args.op c.args.side in
    record {
      room = let r = c.loop-id.invariant.room in let s = c.show_one.ensures.room in omega arith;
      clear = clear-more by c.args.ids.now c.loop-id.id-index 0 _ c.args.store.now c.loop-id.index.items
          c.show_one.new.index.items c.loop-id-test.true refl c.loop-id.invariant.clear c.loop-id.invariant.once
          c.show_one.ensures.items;
      once = once-more c.args.ids.now c.loop-id.id-index 0 c.loop-id-test.true c.loop-id.invariant.once;
      shows = λ items rest e p. shown-more by c.args.store.now items rest c.args.ids.now c.loop-id.id-index 0 _
          c.args.index.now.items c.loop-id.index.items c.show_one.new.index.items
          c.len-count.ensures.rising e p c.loop-id-test.true refl (c.loop-id.invariant.shows items rest e p)
          c.show_one.ensures.items;
    }
