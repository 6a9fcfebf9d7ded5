use Rattle.std.proofs.Common.{Option, subst, sym}
use Rattle.std.specs.Prelude.{IsPermutation}
use Rattle.incr_compile.specs.Compiling.{rules_after}
use Rattle.member_state.specs.Leaves.{leaf_of}
use Rattle.member_state.specs.declared.planned.Planned.{Planned}
use Rattle.policy_meaning.specs.LeafRules.{leaf_rules}
use Rattle.machine_drafts.specs.MemberDrafts.{IsLeafDelta, IsPlannedOf, IsReadyPlan, MemberDraftOf, kept_after}
use Rattle.machine_drafts.proofs.member_draft.MemberDraft.leaf_delta.Goals as goal

pub leaf_delta-requires-clause-ready : goal.leaf_delta-requires-clause-ready
leaf_delta-requires-clause-ready c =
    subst (IsReadyPlan c.self.inside.base.now.kept) c.in-Some.is c.self.invariant.0

pub leaf_delta-requires-clause-plan : goal.leaf_delta-requires-clause-plan
leaf_delta-requires-clause-plan c =
    subst (IsPlannedOf c.self.inside.base.now.kept.state) c.in-Some.is c.self.invariant.1

-- what is told of the plan is so of the draft
pub returns-clause-some : goal.returns-clause-some
returns-clause-some c =
    let x = c.self.inside in
    let n = c.args.n in
    let g = c.args.grant.now in
    let ports = c.args.ports.now in
    let delta = c.in_ok-delta.delta in
    let state = x.base.now.kept.state in
    let rules = subst
    (λ (p : Option Planned). IsPermutation (rules_after delta (leaf_rules ports (leaf_of n g state)))
    (leaf_rules ports (leaf_of n g (kept_after state p x.moment))))
    (sym c.in-Some.is) c.in_ok-delta.ensures.changed in
    subst (λ (d : MemberDraftOf). IsLeafDelta n g ports d delta) c.self.view_is
    (record { member = c.in_ok-delta.ensures.member; rules = rules })
