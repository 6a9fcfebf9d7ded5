use Rattle.install_plan.proofs.Restoring.{restore-step, restore-there}
use Rattle.install_plan.proofs.slots.restore_all.Goals as goal

pub restore-requires : goal.restore-requires
restore-requires c = restore-there c.loop-key.slots.entries c.loop-key.saved.entries c.pop_first.new.self.entries
    c.in-Some.key c.in-Some.old c.in-Some.ensures.removal c.loop-key.invariant.0

pub loop-key-preserved : goal.loop-key-preserved
loop-key-preserved c =
    let one = restore-step c.loop-key.slots.entries c.loop-key.saved.entries c.pop_first.new.self.entries _
    c.in-Some.key c.in-Some.old _ c.in-Some.ensures.removal c.restore.ensures.slots
    (c.loop-key.invariant.0, c.loop-key.invariant.1) in
    (one.0, one.1, c.restore.ensures.known c.loop-key.invariant.2)
