use Rattle.std.proofs.Common.{◌<◌, List, Option, ap, arith, length, subst, sym}
use Rattle.std.specs.Prelude.{IfSome}
use Rattle.policies.specs.declared.policy.MemberItem.{MemberItem}
use Rattle.machine_meaning.proofs.Grants.{grant_sound, item_of}
use Rattle.incr_compile.specs.declared.compiled.LeafDelta.{LeafDelta}
use Rattle.machine_drafts.specs.MemberDrafts.{IsLeafDelta}
use Rattle.event_composes.specs.Turning.{AreTold, mixed_at, stood_in}
use Rattle.machine_drafts.specs.Outcomes.{state_in}
use Rattle.event_composes.proofs.Bounds.{applied, plan_kept}
use Rattle.event_composes.proofs.OneTurn.{can_turn, item_at, items_long, kept_unplanned, told_more}
use Rattle.event_composes.proofs.turning.turn_member.Goals as goal

pub bounds-items-n : goal.bounds-items-n
bounds-items-n g c =
    subst (λ (xs : List MemberItem). c.args.n < length xs) (sym c.members-items.ensures.members)
    (items_long c.args.setup.now c.args.draft.now c.args.n c.requires.after c.requires.there)

pub returns-then-is_unplanned-clause-of : goal.returns-then-is_unplanned-clause-of
returns-then-is_unplanned-clause-of g c =
    let o = c.args.draft.now in
    let n = c.args.n in
    let m = c.index-members-n.result in
    let item = c.index-items-n.result in
    let p = c.args.setup.now in
    let at = item_at o.members c.as_slice-members.result.now n m c.as_slice-members.ensures c.requires.there
    c.index-members-n.is in
    let there = item_at p.members c.members-items.result.now n item c.members-items.ensures.members
    (items_long p o n c.requires.after c.requires.there) c.index-items-n.is in
    kept_unplanned p o c.requires.exprs n item m there at c.args.composed.now
    (c.is_unplanned.ensures c.if-is_unplanned.true) c.requires.of

pub overflow_cast-number : goal.overflow_cast-number
overflow_cast-number g c =
    let lt = items_long c.args.setup.now c.args.draft.now c.args.n c.requires.after c.requires.there in
    let few = c.members-items.ensures.few in
    let same = ap (λ (xs : List MemberItem). length xs) c.members-items.ensures.members in
    omega (arith, lt, few, same)

pub leaf_delta-requires-clause-rising : goal.leaf_delta-requires-clause-rising
leaf_delta-requires-clause-rising g c =
    let n = c.args.n in
    let p = c.args.setup.now in
    let item = c.index-items-n.result in
    let there = item_at p.members c.members-items.result.now n item c.members-items.ensures.members
    (items_long p c.args.draft.now n c.requires.after c.requires.there) c.index-items-n.is in
    (item_of p c.policy-policy.ensures.sound n item there).grant.rising

pub leaf_delta-requires-clause-boxes : goal.leaf_delta-requires-clause-boxes
leaf_delta-requires-clause-boxes g c =
    let n = c.args.n in
    let p = c.args.setup.now in
    let item = c.index-items-n.result in
    let there = item_at p.members c.members-items.result.now n item c.members-items.ensures.members
    (items_long p c.args.draft.now n c.requires.after c.requires.there) c.index-items-n.is in
    (grant_sound p c.policy-policy.ensures.sound n item there).boxes

pub returns-in_default-clause-of : goal.returns-in_default-clause-of
returns-in_default-clause-of g c =
    let o = c.args.draft.now in
    let n = c.args.n in
    let m = c.index-members-n.result in
    let item = c.index-items-n.result in
    let p = c.args.setup.now in
    let at = item_at o.members c.as_slice-members.result.now n m c.as_slice-members.ensures c.requires.there
    c.index-members-n.is in
    let there = item_at p.members c.members-items.result.now n item c.members-items.ensures.members
    (items_long p o n c.requires.after c.requires.there) c.index-items-n.is in
    kept_unplanned p o c.requires.exprs n item m there at c.args.composed.now
    (c.in_ok-delta.ensures.none c.in_default.is) c.requires.of

pub apply-requires-clause-can : goal.apply-requires-clause-can
apply-requires-clause-can g c =
    let o = c.args.draft.now in
    let n = c.args.n in
    let m = c.index-members-n.result in
    let item = c.index-items-n.result in
    let p = c.args.setup.now in
    let at = item_at o.members c.as_slice-members.result.now n m c.as_slice-members.ensures c.requires.there
    c.index-members-n.is in
    let there = item_at p.members c.members-items.result.now n item c.members-items.ensures.members
    (items_long p o n c.requires.after c.requires.there) c.index-items-n.is in
    let delta = c.in-Some.delta in
    let changes = subst (λ (k : Option LeafDelta). IfSome k (IsLeafDelta n item.grant c.in_ok-ports.ports m))
    c.in-Some.is
    c.in_ok-delta.ensures.some in
    let turn = can_turn p o c.requires.exprs n item m there at c.mixtures_turn.ensures c.policy-policy.ensures.sound
    c.requires.before c.requires.after c.in_ok-ports.ports delta c.in_ok-ports.ensures changes in
    turn.can c.args.composed.now c.requires.of.of

pub returns-clause-of : goal.returns-clause-of
returns-clause-of g c =
    let o = c.args.draft.now in
    let n = c.args.n in
    let m = c.index-members-n.result in
    let item = c.index-items-n.result in
    let p = c.args.setup.now in
    let at = item_at o.members c.as_slice-members.result.now n m c.as_slice-members.ensures c.requires.there
    c.index-members-n.is in
    let there = item_at p.members c.members-items.result.now n item c.members-items.ensures.members
    (items_long p o n c.requires.after c.requires.there) c.index-items-n.is in
    let delta = c.in-Some.delta in
    let changes = subst (λ (k : Option LeafDelta). IfSome k (IsLeafDelta n item.grant c.in_ok-ports.ports m))
    c.in-Some.is
    c.in_ok-delta.ensures.some in
    let turn = can_turn p o c.requires.exprs n item m there at c.mixtures_turn.ensures c.policy-policy.ensures.sound
    c.requires.before c.requires.after c.in_ok-ports.ports delta c.in_ok-ports.ensures changes in
    record {
      of = c.in_ok-batches.ensures.of _ _ turn.good turn.good_after c.requires.of.of turn.changes;
      compiled = c.in_ok-batches.ensures.compiled;
      plan_is = λ r there. plan_kept p (mixed_at n o) c.args.composed.now c.requires.of r
          (λ was before. c.apply.ensures.plan was r before there);
    }

pub returns-clause-told : goal.returns-clause-told
returns-clause-told g c before told =
    subst (AreTold c.args.draft.now.next_cookie before c.apply.new.self.tables) (sym c.and.ensures)
    (told_more c.args.draft.now.next_cookie before c.args.composed.now.tables c.apply.new.self.tables c.args.turned
    c.in_ok-batches.batches told c.in_ok-batches.ensures.batches)

pub returns-clause-steps : goal.returns-clause-steps
returns-clause-steps g c =
    let o = c.args.draft.now in
    let n = c.args.n in
    let m = c.index-members-n.result in
    let item = c.index-items-n.result in
    let p = c.args.setup.now in
    let at = item_at o.members c.as_slice-members.result.now n m c.as_slice-members.ensures c.requires.there
    c.index-members-n.is in
    let there = item_at p.members c.members-items.result.now n item c.members-items.ensures.members
    (items_long p o n c.requires.after c.requires.there) c.index-items-n.is in
    let delta = c.in-Some.delta in
    let changes = subst (λ (k : Option LeafDelta). IfSome k (IsLeafDelta n item.grant c.in_ok-ports.ports m))
    c.in-Some.is
    c.in_ok-delta.ensures.some in
    let turn = can_turn p o c.requires.exprs n item m there at c.mixtures_turn.ensures c.policy-policy.ensures.sound
    c.requires.before c.requires.after c.in_ok-ports.ports delta c.in_ok-ports.ensures changes in
    applied p (stood_in o) (state_in o) n c.args.composed.now c.args.steps.now c.apply.new.steps c.requires.of
    (λ r was. c.apply.ensures.steps r was _ _ c.requires.of.of turn.changes)

pub returns-in_err-batches-clause-steps : goal.returns-in_err-batches-clause-steps
returns-in_err-batches-clause-steps g c =
    let o = c.args.draft.now in
    let n = c.args.n in
    let m = c.index-members-n.result in
    let item = c.index-items-n.result in
    let p = c.args.setup.now in
    let at = item_at o.members c.as_slice-members.result.now n m c.as_slice-members.ensures c.requires.there
    c.index-members-n.is in
    let there = item_at p.members c.members-items.result.now n item c.members-items.ensures.members
    (items_long p o n c.requires.after c.requires.there) c.index-items-n.is in
    let delta = c.in-Some.delta in
    let changes = subst (λ (k : Option LeafDelta). IfSome k (IsLeafDelta n item.grant c.in_ok-ports.ports m))
    c.in-Some.is
    c.in_ok-delta.ensures.some in
    let turn = can_turn p o c.requires.exprs n item m there at c.mixtures_turn.ensures c.policy-policy.ensures.sound
    c.requires.before c.requires.after c.in_ok-ports.ports delta c.in_ok-ports.ensures changes in
    applied p (stood_in o) (state_in o) n c.args.composed.now c.args.steps.now c.apply.new.steps c.requires.of
    (λ r was. c.apply.ensures.steps r was _ _ c.requires.of.of turn.changes)
