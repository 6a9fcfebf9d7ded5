use Rattle.install_plan.proofs.Copying.{copy-step}
use Rattle.stats_map.proofs.Rows.{place_total}
use Rattle.stats_map.proofs.copies.copied_cookies.Goals as goal

pub loop-place-preserved : goal.loop-place-preserved
loop-place-preserved c =
    copy-step place_total c.loop-place.copied.entries c.insert.new.self.entries c.loop-place.place-iterator
    c.next.new.self c.args.live.now.entries c.in-Some.place.now c.in-Some.row.now c.in_ok-copy.field-0
    c.in-Some.ensures.steps c.in_ok-copy.ensures c.iter-place-items.ensures.ordered c.loop-place.invariant
    c.in_ok-insert.ensures.entries

pub loop-place-preserved-in_ok-insert : goal.loop-place-preserved-in_ok-insert
loop-place-preserved-in_ok-insert c =
    copy-step place_total c.loop-place.copied.entries c.insert.new.self.entries c.loop-place.place-iterator
    c.next.new.self c.args.live.now.entries c.in-Some.place.now c.in-Some.row.now c.in_ok-copy.field-0
    c.in-Some.ensures.steps c.in_ok-copy.ensures c.iter-place-items.ensures.ordered c.loop-place.invariant
    c.in_ok-insert.ensures.entries
