use Rattle.std.proofs.Common.{◌∙◌, ◌<◌, ◌≤◌, length, sym, ap, arith}
use Rattle.machine_meaning.proofs.Places.{changed_past, set_changed}
use Rattle.event_ends.specs.Boxes.{with_message}
use Rattle.event_ends.proofs.boxes.say.Goals as goal

pub returns-in_ok-push : goal.returns-in_ok-push
returns-in_ok-push g c =
    let within : c.args.letter.to < length c.args.all.now.items = omega (arith, c.len.ensures, c.if-place-len.true) in
    let r = c.index_mut.result.now in
    set_changed (with_message c.args.letter.bytes) c.args.all.now.items c.args.letter.to
    (record r { letters = c.push.new.self }) r within
    (ap (λ ls. record r { letters = ls }) c.in_ok-push.ensures.pushed
    ∙ ap (with_message c.args.letter.bytes) c.index_mut.ensures.value)

pub returns-else-place-len : goal.returns-else-place-len
returns-else-place-len g c =
    let past : length c.args.all.now.items ≤ c.args.letter.to = omega (arith, c.len.ensures, c.if-place-len.false) in
    sym (changed_past (with_message c.args.letter.bytes) c.args.all.now.items c.args.letter.to past)
