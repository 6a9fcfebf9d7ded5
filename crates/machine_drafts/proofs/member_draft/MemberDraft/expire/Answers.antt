use Rattle.std.proofs.Common.{◌∙◌, ap, sym}
use Rattle.machine_drafts.proofs.NoneDue.{draft_stays}
use Rattle.machine_drafts.specs.MemberDrafts.{MemberDraftOf}
use Rattle.machine_drafts.proofs.member_draft.MemberDraft.expire.Goals as goal

pub returns-then-is_empty-clause-expired : goal.returns-then-is_empty-clause-expired
returns-then-is_empty-clause-expired c =
    draft_stays c.args.self.now c.self.inside.base.now c.self.inside.moment c.in_ok-due.due.hard
    (sym (ap (λ (d : MemberDraftOf). d.base) c.self.view_is))
    (sym (ap (λ (d : MemberDraftOf). d.moment) c.self.view_is))
    c.requires c.table.ensures.sound (sym c.is_empty.ensures ∙ c.if-is_empty.true) c.in_ok-due.ensures.hard
