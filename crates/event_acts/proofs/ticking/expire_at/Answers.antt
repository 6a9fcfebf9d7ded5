use Rattle.std.proofs.Common.{◌≡◌, ◌∙◌, ℕ, ◌<◌, List, length, Some, ap, get_or}
use Rattle.std.specs.Prelude.{slice_get}
use Rattle.member_state.specs.Changes.{expired}
use Rattle.machine_drafts.proofs.Expiring.{owed_there}
use Rattle.machine_drafts.proofs.Placed.{member_based, member_changed, member_timed}
use Rattle.machine_meaning.proofs.Places.{slice_get-there}
use Rattle.machine_drafts.specs.MemberDrafts.{MemberDraftOf, with_now}
use Rattle.machine_meaning.specs.Removing.{with_kept}
use Rattle.event_acts.proofs.ticking.expire_at.Goals as goal

-- the draft whose entries expire, at the moment of the event
expired_now : (ms : List MemberDraftOf) (n now : ℕ) (x y : MemberDraftOf) → n < length ms
    → ((m : MemberDraftOf) → slice_get ms n ≡ Some m → m.moment ≡ now)
    → y ≡ with_now (with_kept (expired (get_or ms n x).moment)) (get_or ms n x)
    → y ≡ with_now (with_kept (expired now)) (get_or ms n x)
expired_now ms n now x y lt timely e =
    e ∙ ap (λ (k : ℕ). with_now (with_kept (expired k)) (get_or ms n x))
    (timely (get_or ms n x) (slice_get-there ms n x lt))

pub expire-requires : goal.expire-requires
expire-requires c =
    let r = c.index-members-n.result in
    let x = get_or c.args.members.now c.args.n r in
    let is : r ≡ x = c.index-members-n.is in
    let fresh : x.now.kept ≡ x.base.kept.state =
    c.requires.fresh x (slice_get-there c.args.members.now c.args.n r c.requires.there) in
    cc

pub returns-clause-now : goal.returns-clause-now
returns-clause-now c =
    let r = c.index-members-n.result in
    member_changed (with_kept (expired c.args.now)) c.args.members.now c.args.n c.expire.new.self r c.requires.there
    (expired_now c.args.members.now c.args.n c.args.now r c.expire.new.self c.requires.there c.requires.timely
    c.in_ok-told.ensures.expired)

pub returns-clause-bases : goal.returns-clause-bases
returns-clause-bases c =
    let r = c.index-members-n.result in
    member_based (with_kept (expired c.args.now)) c.args.members.now c.args.n c.expire.new.self r c.requires.there
    (expired_now c.args.members.now c.args.n c.args.now r c.expire.new.self c.requires.there c.requires.timely
    c.in_ok-told.ensures.expired)

pub returns-clause-moments : goal.returns-clause-moments
returns-clause-moments c =
    let r = c.index-members-n.result in
    member_timed (with_kept (expired c.args.now)) c.args.members.now c.args.n c.expire.new.self r c.requires.there
    (expired_now c.args.members.now c.args.n c.args.now r c.expire.new.self c.requires.there c.requires.timely
    c.in_ok-told.ensures.expired)

pub returns-clause-owed : goal.returns-clause-owed
returns-clause-owed c =
    let x = get_or c.args.members.now c.args.n c.index-members-n.result in
    let there : slice_get c.args.members.now c.args.n ≡ Some x =
    slice_get-there c.args.members.now c.args.n c.index-members-n.result c.requires.there in
    owed_there c.args.now c.args.n c.args.members.now x c.in_ok-told.told c.args.owed.now.now c.owe_all.new.owed.now
    there (c.requires.timely x there) c.in_ok-told.ensures.told c.in_ok-owe_all.ensures.now
