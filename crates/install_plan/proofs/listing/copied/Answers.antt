use Rattle.install_plan.proofs.Copying.{copy-step}
use Rattle.install_plan.proofs.Keyed.{order_total}
use Rattle.install_plan.proofs.listing.copied.Goals as goal

pub loop-key-preserved : goal.loop-key-preserved
loop-key-preserved g c =
    copy-step order_total c.loop-key.copied.entries c.insert.new.self.entries c.loop-key.key-iterator c.next.new.self
    c.args.map.now.entries c.in-Some.key.now c.in-Some.value.now c.in_ok-copy.field-0 c.in-Some.ensures.steps
    c.in_ok-copy.ensures c.iter-key-items.ensures.ordered c.loop-key.invariant c.in_ok-insert.ensures.entries

pub loop-key-preserved-in_ok-insert : goal.loop-key-preserved-in_ok-insert
loop-key-preserved-in_ok-insert g c =
    copy-step order_total c.loop-key.copied.entries c.insert.new.self.entries c.loop-key.key-iterator c.next.new.self
    c.args.map.now.entries c.in-Some.key.now c.in-Some.value.now c.in_ok-copy.field-0 c.in-Some.ensures.steps
    c.in_ok-copy.ensures c.iter-key-items.ensures.ordered c.loop-key.invariant c.in_ok-insert.ensures.entries
