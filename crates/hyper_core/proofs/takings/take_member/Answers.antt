use Rattle.std.proofs.Common.{◌<◌, ◌≤◌, get_or, length, sym, ap, ◌∙◌, arith, map}
use Rattle.std.specs.Prelude.{option_map}
use Rattle.std.proofs.lemmas.List.{length-map}
use Rattle.outbox.specs.Outboxes.{OutboxOf, taken}
use Rattle.machine_meaning.proofs.Places.{changed_past, map-set_changed, slice_get-map}
use Rattle.machine_meaning.specs.States.{MemberOf}
use Rattle.machine_meaning.specs.Takings.{reply_of, taking_from}
use Rattle.machine_drafts.specs.Views.{member_of}
use Rattle.hyper_core.proofs.takings.take_member.Goals as goal

pub returns-then-n-members-clause-left : goal.returns-then-n-members-clause-left
returns-then-n-members-clause-left c =
    let past : length c.args.members.now ≤ c.args.n = omega (arith, c.if-n-members.true) in
    let long : length (map member_of c.args.members.now) ≤ c.args.n = rw length-map past in
    sym (changed_past (λ (x : MemberOf). record x { outbox = taken x.outbox c.args.round })
    (map member_of c.args.members.now) c.args.n long)

pub returns-clause-reply : goal.returns-clause-reply
returns-clause-reply c =
    let within : c.args.n < length c.args.members.now = omega (arith, c.if-n-members.false) in
    let r = c.index-members-n.result in
    let x = get_or c.args.members.now c.args.n r in
    let found = slice_get-map member_of c.args.members.now c.args.n r within in
    c.reply_of.ensures ∙ (ap reply_of c.take.ensures.answer
    ∙ ap (λ o. taking_from (option_map (λ (x : MemberOf). x.outbox) o) c.args.round)
    (sym found))

pub returns-clause-left : goal.returns-clause-left
returns-clause-left c =
    let within : c.args.n < length c.args.members.now = omega (arith, c.if-n-members.false) in
    let r = c.index-members-n.result in
    let x = get_or c.args.members.now c.args.n r in
    map-set_changed member_of (λ (x : MemberOf). record x { outbox = taken x.outbox c.args.round })
    c.args.members.now c.args.n (record x { outbox = c.take.new.self }) r within
    (ap (λ (o : OutboxOf). record (member_of x) { outbox = o }) c.take.ensures.left)
