use Rattle.std.proofs.Common.{◌≡◌, ◌∙◌, ◌++◌, List, refl, sym, ap, subst, arith}
use Rattle.std.specs.List.{AllByRecursion}
use Rattle.std.proofs.lemmas.List.{length-map}
use Rattle.member_state.specs.Changes.{expired}
use Rattle.machine_drafts.proofs.Expiring.{all_first, at_moment, more_first, more_told, next_unplanned, none_first}
use Rattle.machine_drafts.proofs.Expiring.{none_told, owed_same}
use Rattle.machine_drafts.specs.MemberDrafts.{MemberDraftOf}
use Rattle.machine_drafts.specs.Outcomes.{members_in}
use Rattle.machine_meaning.specs.Removing.{owed_for, with_kept}
use Rattle.machine_meaning.specs.declared.state.Owed.{Owed}
use Rattle.event_acts.proofs.ticking.expire_all.Goals as goal

pub loop-n-init : goal.loop-n-init
loop-n-init c = record {
  now = none_first (with_kept (expired c.args.now)) (members_in c.args.members.now);
  bases = refl;
  moments = refl;
  owed = refl;
  base = refl;
}

pub expire_at-requires-clause-fresh : goal.expire_at-requires-clause-fresh
expire_at-requires-clause-fresh c =
    λ x e.
    next_unplanned (with_kept (expired c.args.now)) c.loop-n.n c.args.members.now c.loop-n.members x c.requires.fresh
    c.loop-n.invariant.now c.loop-n.invariant.bases e

pub expire_at-requires-clause-timely : goal.expire_at-requires-clause-timely
expire_at-requires-clause-timely c =
    λ x e.
    at_moment c.loop-n.n c.args.now c.loop-n.members x
    (subst (AllByRecursion (λ moment. moment ≡ c.args.now)) (sym c.loop-n.invariant.moments) c.requires.timely) e

pub loop-n-preserved : goal.loop-n-preserved
loop-n-preserved c =
    let f = with_kept (expired c.args.now) in
    let old = members_in c.args.members.now in
    let n = c.loop-n.n in
    record {
      now = more_first f n old (members_in c.loop-n.members) _ c.loop-n.invariant.now c.in_ok-expire_at.ensures.now;
      bases = c.in_ok-expire_at.ensures.bases ∙ c.loop-n.invariant.bases;
      moments = c.in_ok-expire_at.ensures.moments ∙ c.loop-n.invariant.moments;
      owed = more_told (owed_for c.args.now) n old c.loop-n.owed.now _ _
          (c.in_ok-expire_at.ensures.owed
          ∙ ap (λ (os : List Owed). c.loop-n.owed.now ++ os)
          (owed_same c.args.now n f old (members_in c.loop-n.members) c.loop-n.invariant.now))
          c.loop-n.invariant.owed;
      base = c.expire_at.ensures.base ∙ c.loop-n.invariant.base;
    }

pub returns-clause-now : goal.returns-clause-now
returns-clause-now c =
    let old = members_in c.args.members.now in
    let long = length-map c.args.members.now (λ (m : MemberDraftOf). m.now) in
    c.loop-n.invariant.now ∙ all_first (with_kept (expired c.args.now)) c.loop-n.n old (omega arith)

pub returns-clause-owed : goal.returns-clause-owed
returns-clause-owed c =
    let old = members_in c.args.members.now in
    let long = length-map c.args.members.now (λ (m : MemberDraftOf). m.now) in
    none_told (owed_for c.args.now) c.loop-n.n old c.loop-n.owed.now _ (omega arith) c.loop-n.invariant.owed
