use Rattle.machine_drafts.proofs.Placed.{member_based, member_changed, member_timed, none_changed}
use Rattle.machine_drafts.specs.MemberDrafts.{MemberDraftOf}
use Rattle.machine_meaning.specs.Rounds.{begun_member}
use Rattle.machine_drafts.proofs.sessions.open_member.Goals as goal

pub returns-then-place-members-clause-now : goal.returns-then-place-members-clause-now
returns-then-place-members-clause-now c =
    none_changed (λ (m : MemberDraftOf). m.now) begun_member c.args.members.now c.args.n c.if-place-members.true

pub returns-clause-now : goal.returns-clause-now
returns-clause-now c =
    let r = c.index-members-place.result in
    member_changed begun_member c.args.members.now c.args.n c.open.new.self r c.if-place-members.false
    c.open.ensures

pub returns-clause-bases : goal.returns-clause-bases
returns-clause-bases c =
    let r = c.index-members-place.result in
    member_based begun_member c.args.members.now c.args.n c.open.new.self r c.if-place-members.false
    c.open.ensures

pub returns-clause-moments : goal.returns-clause-moments
returns-clause-moments c =
    let r = c.index-members-place.result in
    member_timed begun_member c.args.members.now c.args.n c.open.new.self r c.if-place-members.false
    c.open.ensures
