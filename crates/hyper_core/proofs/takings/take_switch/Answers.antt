use Rattle.std.proofs.Common.{◌<◌, ◌≤◌, get_or, length, refl, sym, ap, ◌∙◌, arith, map}
use Rattle.std.specs.Prelude.{option_map}
use Rattle.std.proofs.lemmas.List.{length-map}
use Rattle.outbox.specs.Outboxes.{OutboxOf, taken}
use Rattle.machine_meaning.proofs.Places.{changed_past, map-set_changed, map-set_same, slice_get-map}
use Rattle.machine_meaning.specs.States.{SwitchOf}
use Rattle.machine_meaning.specs.Takings.{reply_of, taking_from}
use Rattle.machine_drafts.specs.Views.{standing_of, switch_of}
use Rattle.hyper_core.proofs.takings.take_switch.Goals as goal

pub returns-then-n-switches-clause-left : goal.returns-then-n-switches-clause-left
returns-then-n-switches-clause-left c =
    let past : length c.args.switches.now ≤ c.args.n = omega (arith, c.if-n-switches.true) in
    let long : length (map switch_of c.args.switches.now) ≤ c.args.n = rw length-map past in
    sym (changed_past (λ (x : SwitchOf). record x { outbox = taken x.outbox c.args.round })
    (map switch_of c.args.switches.now) c.args.n long)

pub returns-clause-reply : goal.returns-clause-reply
returns-clause-reply c =
    let within : c.args.n < length c.args.switches.now = omega (arith, c.if-n-switches.false) in
    let r = c.index-switches-n.result in
    let x = get_or c.args.switches.now c.args.n r in
    let found = slice_get-map switch_of c.args.switches.now c.args.n r within in
    c.reply_of.ensures ∙ (ap reply_of c.take.ensures.answer
    ∙ ap (λ o. taking_from (option_map (λ (x : SwitchOf). x.outbox) o) c.args.round)
    (sym found))

pub returns-clause-left : goal.returns-clause-left
returns-clause-left c =
    let within : c.args.n < length c.args.switches.now = omega (arith, c.if-n-switches.false) in
    let r = c.index-switches-n.result in
    let x = get_or c.args.switches.now c.args.n r in
    map-set_changed switch_of (λ (x : SwitchOf). record x { outbox = taken x.outbox c.args.round })
    c.args.switches.now c.args.n (record x { outbox = c.take.new.self }) r within
    (ap (λ (o : OutboxOf). record (switch_of x) { outbox = o }) c.take.ensures.left)

pub returns-clause-standing : goal.returns-clause-standing
returns-clause-standing c =
    let within : c.args.n < length c.args.switches.now = omega (arith, c.if-n-switches.false) in
    let r = c.index-switches-n.result in
    let x = get_or c.args.switches.now c.args.n r in
    map-set_same standing_of c.args.switches.now c.args.n (record x { outbox = c.take.new.self }) r within
    refl
