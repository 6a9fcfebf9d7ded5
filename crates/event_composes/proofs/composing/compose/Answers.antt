use Rattle.std.proofs.Common.{◌∙◌, Option, ap, refl, subst, sym, true≢false}
use Rattle.std.specs.Prelude.{IfSome, is_some}
use Rattle.composed_tables.specs.Composing.{ComposedOf}
use Rattle.event_composes.specs.Kept.{IsComposedOf, IsKeptBy}
use Rattle.machine_drafts.specs.Outcomes.{bases, draft_in}
use Rattle.event_composes.proofs.Cases.{in_ok_case}
use Rattle.event_composes.proofs.Bounds.{kept_steps_of, no_more}
use Rattle.event_composes.proofs.Following.{unchanged_kept}
use Rattle.event_composes.proofs.Unneeded.{unchanged_composed}
use Rattle.event_composes.proofs.composing.compose.Goals as goal

pub returns-then-is_unchanged-clause-drafted : goal.returns-then-is_unchanged-clause-drafted
returns-then-is_unchanged-clause-drafted g c =
    unchanged_composed c.args.setup.now c.args.draft.now c.requires.settled
    (c.is_unchanged.ensures c.if-is_unchanged.true)

pub returns-then-is_unchanged-clause-kept : goal.returns-then-is_unchanged-clause-kept
returns-then-is_unchanged-clause-kept g c =
    unchanged_kept c.args.setup.now c.args.draft.now c.args.composed.now
    (c.is_unchanged.ensures c.if-is_unchanged.true) c.requires.kept

pub returns-then-is_replaced-clause-kept : goal.returns-then-is_replaced-clause-kept
returns-then-is_replaced-clause-kept g c =
    in_ok_case c.compose_anew.result
    (subst (λ (k : Option ComposedOf). IfSome k
    (IsComposedOf c.args.setup.now (draft_in c.args.draft.now).state)) (sym c.set_kept.ensures) tt)

-- the reply says so
pub returns-then-is_replaced-clause-follows : goal.returns-then-is_replaced-clause-follows
returns-then-is_replaced-clause-follows g c some other =
    absurd (true≢false (sym c.if-is_replaced.true ∙ (c.is_replaced.ensures ∙ other)))

pub compose_kept-requires-clause-kept : goal.compose_kept-requires-clause-kept
compose_kept-requires-clause-kept g c =
    subst (λ (k : Option ComposedOf). IfSome k
    (IsKeptBy c.args.setup.now (bases c.args.draft.now) (draft_in c.args.draft.now).state)) c.in-Some.is c.requires.kept

pub returns-in-Some-clause-follows : goal.returns-in-Some-clause-follows
returns-in-Some-clause-follows g c some other = in_ok_case c.compose_kept.result refl

pub returns-in-Some-clause-steps : goal.returns-in-Some-clause-steps
returns-in-Some-clause-steps g c =
    kept_steps_of c.args.composed.now c.in-Some.kept c.args.steps.now c.compose_kept.new.steps _ c.in-Some.is
    c.compose_kept.ensures.steps

pub returns-in-None-clause-kept : goal.returns-in-None-clause-kept
returns-in-None-clause-kept g c =
    in_ok_case c.compose_anew-in-None.result
    (subst (λ (k : Option ComposedOf). IfSome k
    (IsComposedOf c.args.setup.now (draft_in c.args.draft.now).state)) (sym c.in-None.is) tt)

pub returns-in-None-clause-follows : goal.returns-in-None-clause-follows
returns-in-None-clause-follows g c some other = absurd (true≢false (sym some ∙ ap is_some c.in-None.is))

pub returns-then-is_unchanged-clause-steps : goal.returns-then-is_unchanged-clause-steps
returns-then-is_unchanged-clause-steps g c = no_more _ _

pub returns-then-is_replaced-clause-steps : goal.returns-then-is_replaced-clause-steps
returns-then-is_replaced-clause-steps g c = no_more _ _

pub returns-in-None-clause-steps : goal.returns-in-None-clause-steps
returns-in-None-clause-steps g c = no_more _ _
