use Rattle.std.proofs.Common.{◌≡◌, ◌∙◌, List, Some, ◌≤◌, ap, drop, length, slice_get, subst, sym}
use Rattle.policies.specs.declared.policy.MemberItem.{MemberItem}
use Rattle.event_acts.proofs.Doubting.{more_doubts, none_left}
use Rattle.machine_drafts.proofs.Expiring.{stands_there}
use Rattle.machine_drafts.specs.Outcomes.{state_in}
use Rattle.event_acts.proofs.ticking.doubts_at.Goals as goal

pub loop-n-preserved : goal.loop-n-preserved
loop-n-preserved c =
    let items = c.members-member-items.result.now in
    let there : slice_get c.args.setup.now.members c.loop-n.n ≡ Some c.member-item.result =
    ap (λ (ms : List MemberItem). slice_get ms c.loop-n.n) (sym c.members-member-items.ensures.members)
    ∙ stands_there items c.loop-n.n c.member-item.result c.loop-n-test.true c.member-item.is in
    more_doubts (state_in c.args.draft.now) c.args.v c.loop-n.n c.args.setup.now.members c.member-item.result
    c.loop-n.doubts c.add_doubts_if.new.doubts _ there c.in_ok-add_doubts_if.ensures c.loop-n.invariant

pub returns : goal.returns
returns c =
    let s = state_in c.args.draft.now in
    none_left s c.args.v c.loop-n.n c.args.setup.now.members (drop c.loop-n.n s.members) c.loop-n.doubts _
    (subst (λ (ms : List MemberItem). length ms ≤ c.loop-n.n) c.members-member-items.ensures.members
    c.loop-n-test.false)
    c.loop-n.invariant
