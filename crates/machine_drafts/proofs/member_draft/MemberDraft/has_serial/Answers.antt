use Rattle.std.proofs.Common.{subst}
use Rattle.machine_drafts.specs.Serials.{HasSerial}
use Rattle.machine_drafts.specs.MemberDrafts.{MemberDraftOf}
use Rattle.machine_drafts.proofs.Serials.{serial_left}
use Rattle.machine_drafts.proofs.member_draft.MemberDraft.has_serial.Goals as goal

pub returns : goal.returns
returns c t =
    subst (λ (d : MemberDraftOf). HasSerial d.now) c.self.view_is
    (serial_left c.self.inside.base.now.kept c.self.inside.planned c.self.inside.moment c.table-table.ensures.sound
    c.self.invariant.0)
