use Rattle.member_state.specs.Changes.{without}
use Rattle.machine_drafts.proofs.Placed.{member_based, member_changed, member_timed, none_changed}
use Rattle.machine_drafts.specs.MemberDrafts.{MemberDraftOf}
use Rattle.machine_meaning.specs.Removing.{with_kept}
use Rattle.event_ends.proofs.doubts.drop_at.Goals as goal

pub returns-then-place-members-clause-now : goal.returns-then-place-members-clause-now
returns-then-place-members-clause-now c =
    none_changed (λ (m : MemberDraftOf). m.now) (with_kept (without c.args.doubt.now.serial)) c.args.members.now
    c.args.doubt.now.member c.if-place-members.true

pub returns-clause-now : goal.returns-clause-now
returns-clause-now c =
    let r = c.index-members-place.result in
    member_changed (with_kept (without c.args.doubt.now.serial)) c.args.members.now c.args.doubt.now.member
    c.drop.new.self r c.if-place-members.false
    c.in_ok-drop.ensures

pub returns-clause-bases : goal.returns-clause-bases
returns-clause-bases c =
    let r = c.index-members-place.result in
    member_based (with_kept (without c.args.doubt.now.serial)) c.args.members.now c.args.doubt.now.member
    c.drop.new.self r c.if-place-members.false
    c.in_ok-drop.ensures

pub returns-clause-moments : goal.returns-clause-moments
returns-clause-moments c =
    let r = c.index-members-place.result in
    member_timed (with_kept (without c.args.doubt.now.serial)) c.args.members.now c.args.doubt.now.member
    c.drop.new.self r c.if-place-members.false
    c.in_ok-drop.ensures
