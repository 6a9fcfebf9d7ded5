use Rattle.random_changes.proofs.hops.fold.Goals as goal

pub loop-turn-init : goal.loop-turn-init
loop-turn-init g c = c.requires

pub follows-requires : goal.follows-requires
follows-requires g c = c.loop-turn.invariant

pub loop-turn-preserved : goal.loop-turn-preserved
loop-turn-preserved g c = c.in_ok-follows.ensures
