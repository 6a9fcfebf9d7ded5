use Rattle.bench_parts.proofs.Entries.{none-numbered, one-numbered}
use Rattle.bench_parts.proofs.compose.asked.Asked.entries.Goals as goal

pub loop-number-init : goal.loop-number-init
loop-number-init c = none-numbered c.new-entries.result c.new-entries.ensures

pub loop-number-preserved : goal.loop-number-preserved
loop-number-preserved c =
    one-numbered c.loop-number.number c.loop-number.entries c.push.new.self c.in_ok-entry.entry c.loop-number.invariant
    c.in_ok-entry.ensures
    c.in_ok-push.ensures.pushed

pub returns : goal.returns
returns c = let i = c.loop-number.invariant in record { sound = i.sound; apart = i.apart }
