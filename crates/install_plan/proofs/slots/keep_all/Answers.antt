use Rattle.std.proofs.Common.{refl, sym, subst, ◌∙◌}
use Rattle.install_plan.specs.InsideSlots.{AreKept}
use Rattle.install_plan.proofs.Restoring.{keep-step}
use Rattle.install_plan.proofs.slots.keep_all.Goals as goal

pub loop-key-init : goal.loop-key-init
loop-key-init c =
    let pairs = c.into_iter-key-iterator.ensures.into_iter_gives ∙ c.iter-key-items.ensures.rest in
    (subst (AreKept c.args.slots.now.entries) (sym pairs) c.requires.kept, refl, c.requires.known)

pub loop-key-preserved : goal.loop-key-preserved
loop-key-preserved c =
    let one = keep-step c.loop-key.slots.entries c.loop-key.key-iterator c.next.new.self _ c.in-Some.key.now _ _
    c.in-Some.ensures.steps c.drop_empty.ensures.slots (c.loop-key.invariant.0, c.loop-key.invariant.1) in
    (one.0, one.1, c.drop_empty.ensures.known c.loop-key.invariant.2)
