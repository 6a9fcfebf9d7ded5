use Rattle.std.proofs.Common.{ap}
use Rattle.machine_drafts.specs.MemberDrafts.{MemberDraftOf}
use Rattle.machine_meaning.specs.MemberMessages.{with_config}
use Rattle.event_acts.proofs.Changes.{bases_kept, moments_kept, now_changed}
use Rattle.event_acts.proofs.member_messages.configure_at.Goals as goal

pub returns-clause-now : goal.returns-clause-now
returns-clause-now c =
    now_changed (with_config c.args.config) c.args.members.now c.args.n c.configure.new.self c.index-members-n.result
    c.requires (ap (λ (z : MemberDraftOf). z.now) c.configure.ensures)

pub returns-clause-bases : goal.returns-clause-bases
returns-clause-bases c =
    bases_kept c.args.members.now c.args.n c.configure.new.self c.index-members-n.result
    (ap (λ (z : MemberDraftOf). z.base) c.configure.ensures)

pub returns-clause-moments : goal.returns-clause-moments
returns-clause-moments c =
    moments_kept c.args.members.now c.args.n c.configure.new.self c.index-members-n.result
    (ap (λ (z : MemberDraftOf). z.moment) c.configure.ensures)
