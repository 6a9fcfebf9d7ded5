use Rattle.std.proofs.Common.{subst}
use Rattle.std.specs.Prelude.{IsSome}
use Rattle.install_plan.specs.InsideSlots.{Slots, slot_at}
use Rattle.install_plan.proofs.Finding.{known-written}
use Rattle.install_plan.proofs.Writing.{found, written-only}
use Rattle.install_plan.proofs.slots.restore.Goals as goal

pub returns-else-is_empty-clause-known : goal.returns-else-is_empty-clause-known
returns-else-is_empty-clause-known c = λ known.
    let k = c.args.key.now in
    let slots = c.args.slots.now.entries in
    let f = found (slot_at k slots) c.requires in
    known-written c.args.finder.now slots c.write.new.slots.entries
    (λ q t. written-only k q f.0 c.args.old slots f.1 (subst (λ (z : Slots). IsSome (slot_at q z)) c.write.ensures t))
    known
