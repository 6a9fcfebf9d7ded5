use Rattle.std.proofs.Common.{arith}
use Rattle.made_rules.proofs.Changes.{leaves-more, leaves-none}
use Rattle.made_rules.proofs.change.move_all_out.Goals as goal

pub loop-id-init : goal.loop-id-init
loop-id-init c = record {
  leaves = leaves-none c.args.store.now c.args.left.now.items c.args.gone.now;
  room = let r = c.requires in omega arith;
}

pub loop-id-preserved : goal.loop-id-preserved
loop-id-preserved c = record {
  leaves =
      leaves-more c.args.store.now c.loop-id.store c.move_out.new.store c.args.left.now.items c.loop-id.left.items
      c.move_out.new.left.items c.args.gone.now c.loop-id.id-index _ c.loop-id-test.true c.loop-id.invariant.leaves
      c.move_out.ensures.rest c.move_out.ensures.left;
  room = let r = c.loop-id.invariant.room in let l = c.move_out.ensures.len in let m = c.move_out.ensures.room in
      let t = c.loop-id-test.true in omega arith;
}
