use Rattle.std.proofs.Common.{◌≡◌, ◌∙◌, ℕ, ◌<◌, List, length, ap, get_or}
use Rattle.std.specs.List.{AllByRecursion}
use Rattle.member_state.specs.Changes.{touched}
use Rattle.machine_drafts.proofs.Expiring.{at_moment}
use Rattle.machine_meaning.proofs.Places.{slice_get-there}
use Rattle.machine_drafts.proofs.Placed.{member_based, member_changed, member_timed, none_changed}
use Rattle.machine_drafts.specs.MemberDrafts.{MemberDraftOf, with_now}
use Rattle.machine_drafts.specs.Outcomes.{moments_of}
use Rattle.machine_meaning.specs.Removing.{with_kept}
use Rattle.event_ends.proofs.doubts.touch_at.Goals as goal

-- the draft that is touched, at the moment of the event
touched_now : (ms : List MemberDraftOf) (n serial now : ℕ) (x y : MemberDraftOf) → n < length ms
    → AllByRecursion (λ moment. moment ≡ now) (moments_of ms)
    → y ≡ with_now (with_kept (touched serial (get_or ms n x).moment)) (get_or ms n x)
    → y ≡ with_now (with_kept (touched serial now)) (get_or ms n x)
touched_now ms n serial now x y lt timely e =
    e ∙ ap (λ (k : ℕ). with_now (with_kept (touched serial k)) (get_or ms n x))
    (at_moment n now ms (get_or ms n x) timely (slice_get-there ms n x lt))

pub returns-then-place-members-clause-now : goal.returns-then-place-members-clause-now
returns-then-place-members-clause-now c =
    none_changed (λ (m : MemberDraftOf). m.now) (with_kept (touched c.args.doubt.now.serial c.args.now))
    c.args.members.now c.args.doubt.now.member c.if-place-members.true

pub returns-clause-now : goal.returns-clause-now
returns-clause-now c =
    let r = c.index-members-place.result in
    member_changed (with_kept (touched c.args.doubt.now.serial c.args.now)) c.args.members.now c.args.doubt.now.member
    c.touch.new.self r c.if-place-members.false
    (touched_now c.args.members.now c.args.doubt.now.member c.args.doubt.now.serial c.args.now r c.touch.new.self
    c.if-place-members.false c.requires c.in_ok-touch.ensures)

pub returns-clause-bases : goal.returns-clause-bases
returns-clause-bases c =
    let r = c.index-members-place.result in
    member_based (with_kept (touched c.args.doubt.now.serial c.args.now)) c.args.members.now c.args.doubt.now.member
    c.touch.new.self r c.if-place-members.false
    (touched_now c.args.members.now c.args.doubt.now.member c.args.doubt.now.serial c.args.now r c.touch.new.self
    c.if-place-members.false c.requires c.in_ok-touch.ensures)

pub returns-clause-moments : goal.returns-clause-moments
returns-clause-moments c =
    let r = c.index-members-place.result in
    member_timed (with_kept (touched c.args.doubt.now.serial c.args.now)) c.args.members.now c.args.doubt.now.member
    c.touch.new.self r c.if-place-members.false
    (touched_now c.args.members.now c.args.doubt.now.member c.args.doubt.now.serial c.args.now r c.touch.new.self
    c.if-place-members.false c.requires c.in_ok-touch.ensures)
