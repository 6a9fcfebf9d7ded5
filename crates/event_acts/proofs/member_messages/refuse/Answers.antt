use Rattle.std.proofs.Common.{◌∙◌, ap, ℕ}
use Rattle.std.proofs.lemmas.Result.{on_ok_weaker}
use Rattle.member_replies.specs.Refusals.{deny_line}
use Rattle.machine_drafts.proofs.DraftFields.{refused}
use Rattle.event_acts.proofs.member_messages.refuse.Goals as goal

pub returns-clause-drafted : goal.returns-clause-drafted
returns-clause-drafted c =
    let m = c.args.m.now in
    on_ok_weaker c.push-2.result
    (λ h. refused c.args.draft.now c.args.n m c.args.frame.now c.args.denied.now c.push.new.self c.push-2.new.self
    c.in_ok-bytes.bytes c.in_ok-line.line c.in_ok-push.ensures.pushed c.in_ok-bytes.ensures
    (c.in_ok-line.ensures
    ∙ ap (λ (xid : ℕ). deny_line m.controller m.vsw xid c.args.denied.now) c.xid_of.ensures) h)
    c.push-2.ensures.pushed
