use Rattle.std.proofs.Common.{◌≡◌, ap, subst, sym, ◌∙◌}
use Rattle.std.proofs.lemmas.Option.{slice_get_within}
use Rattle.member_state.specs.Changes.{accepted}
use Rattle.member_state.specs.Plans.{after_planned}
use Rattle.machine_drafts.specs.MemberDrafts.{MemberDraftOf, with_now}
use Rattle.machine_meaning.specs.Removing.{with_kept}
use Rattle.event_acts.proofs.Changes.{after_message, bases_kept, get_there, moments_kept, now_changed}
use Rattle.leaf_changes.proofs.PlansMade.{messages-are-plans}
use Rattle.leaf_changes.specs.Plans.{IsPlanOf}
use Rattle.member_table.specs.Sound.{IsSound}
use Rattle.member_table.specs.Tables.{TableOf}
use Rattle.event_acts.proofs.flow_mods.plan_at.Goals as goal

pub plan-requires-clause-plan : goal.plan-requires-clause-plan
plan-requires-clause-plan c =
    let x = c.requires.x in
    let first = get_there c.args.members.now c.args.n x c.index-members-n.result c.requires.stands.there in
    let second = get_there c.args.members.now c.args.n x c.index-members-n-2.result c.requires.stands.there in
    let sound = subst (λ (t : TableOf). IsSound t)
    (c.table_before.ensures ∙ sym (ap (λ (z : MemberDraftOf). z.base.kept.state.table) first)) c.len.ensures.sound in
    subst (λ (z : MemberDraftOf). IsPlanOf z.base.kept.state c.args.planned) second
    (messages-are-plans x.base.kept.state c.args.change.now c.args.planned c.args.now sound c.requires.plans.change
    c.requires.plans.after)

pub returns-clause-now : goal.returns-clause-now
returns-clause-now c =
    let x = c.requires.x in
    let d = c.index-members-n-2.result in
    let y = c.plan.new.self in
    let p = c.args.planned in
    let found = get_there c.args.members.now c.args.n x d c.requires.stands.there in
    let planned = subst
    (λ (z : MemberDraftOf). y ≡ with_now (with_kept (λ old. after_planned z.base.kept.state p z.moment)) z)
    (sym found) c.plan.ensures in
    now_changed (with_kept (accepted c.args.change.now c.args.now)) c.args.members.now c.args.n y d
    (slice_get_within c.args.members.now c.args.n x c.requires.stands.there)
    (after_message x y c.args.now c.args.change.now p planned c.requires.stands.moment c.requires.stands.kept
    c.requires.plans.after
    ∙ ap (λ (z : MemberDraftOf). with_kept (accepted c.args.change.now c.args.now) z.now) found)

pub returns-clause-bases : goal.returns-clause-bases
returns-clause-bases c =
    bases_kept c.args.members.now c.args.n c.plan.new.self c.index-members-n-2.result
    (ap (λ (z : MemberDraftOf). z.base) c.plan.ensures)

pub returns-clause-moments : goal.returns-clause-moments
returns-clause-moments c =
    moments_kept c.args.members.now c.args.n c.plan.new.self c.index-members-n-2.result
    (ap (λ (z : MemberDraftOf). z.moment) c.plan.ensures)
