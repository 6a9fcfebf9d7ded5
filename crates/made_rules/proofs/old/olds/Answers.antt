use Rattle.made_rules.proofs.Changes.{olds-more}
use Rattle.made_rules.proofs.old.olds.Goals as goal

pub loop-id-preserved : goal.loop-id-preserved
loop-id-preserved c items rest e p =
    olds-more c.args.store.now items rest c.args.ids.now c.loop-id.id-index _ c.len-count.ensures.rising e p
    c.loop-id-test.true c.loop-id.olds.items c.push_old.new.olds.items c.old_at.result
    (c.loop-id.invariant items rest e p) c.old_at.ensures c.in_ok-push_old.ensures
