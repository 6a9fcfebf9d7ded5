use Rattle.std.proofs.Common.{◌≡◌, ◌∙◌, ℕ, ◌+◌, ◌≤◌, refl, sym, ap, subst}
use Rattle.std.specs.Prelude.{IfSome}
use Rattle.event_acts.proofs.Acted.{fresh_begun, judged_begun, nothing_sent}
use Rattle.event_composes.specs.Costs.{is_replaced, kept_steps}
use Rattle.hyper_core.specs.Drafting.{settled_from}
use Rattle.event_composes.specs.Kept.{IsComposedOf}
use Rattle.event_composes.specs.Settled.{WasSettled}
use Rattle.hyper_core.proofs.Attempts.{numbers_kept}
use Rattle.event_composes.proofs.Bounds.{drafted_steps, no_more}
use Rattle.event_composes.proofs.KeptOn.{all_settled, kept_settled}
use Rattle.hyper_core.proofs.Overtaken.{heard_at}
use Rattle.event_composes.proofs.Phased.{moment_again, stands_before, timely_begun}
use Rattle.event_ends.specs.Closings.{closing_of}
use Rattle.machine_drafts.specs.Machines.{at_moment, bases_of, state_in_held}
use Rattle.machine_drafts.specs.Moments.{IsOfEvent, moment_of}
use Rattle.machine_drafts.specs.Outcomes.{AreTimely, IsBefore, bases, draft_in}
use Rattle.event_acts.specs.Overtaking.{IsHeardOf}
use Rattle.machine_drafts.specs.Outcomes.{HaveNumbers}
use Rattle.machine_meaning.specs.Composing.{compose}
use Rattle.machine_meaning.specs.Drafts.{Draft, untouched}
use Rattle.machine_meaning.specs.Phases.{settled_of}
use Rattle.machine_meaning.specs.Telling.{tell}
use Rattle.hyper_core.proofs.drafting.draft.Goals as goal

pub go_through-gone-requires-clause-numbers : goal.go_through-gone-requires-clause-numbers
go_through-gone-requires-clause-numbers g c =
    subst HaveNumbers (sym c.in_ok-draft.ensures.bases)
    (numbers_kept c.args.held.now c.args.held.now (moment_of c.args.event.now c.args.held.now.moment)
    c.moment_of-now.result refl c.requires.numbers)

pub go_through-gone-requires-clause-fresh : goal.go_through-gone-requires-clause-fresh
go_through-gone-requires-clause-fresh g c =
    fresh_begun c.args.held.now c.moment_of-now.result c.in_ok-draft.draft c.in_ok-draft.ensures.draft
    c.in_ok-draft.ensures.bases

pub go_through-gone-requires-clause-timely : goal.go_through-gone-requires-clause-timely
go_through-gone-requires-clause-timely g c =
    subst AreTimely (sym c.in_ok-draft.ensures.bases) (timely_begun c.moment_of-now.result c.args.held.now)

pub go_through-gone-requires-clause-moment : goal.go_through-gone-requires-clause-moment
go_through-gone-requires-clause-moment g c =
    subst (IsOfEvent c.args.event.now) (sym c.in_ok-draft.ensures.bases)
    (subst (λ n. moment_of c.args.event.now n ≡ n) (sym c.moment_of-now.ensures)
    (moment_again c.args.event.now c.args.held.now.moment))

pub go_through-gone-requires-clause-whole : goal.go_through-gone-requires-clause-whole
go_through-gone-requires-clause-whole g c = c.requires.whole

pub go_through-gone-requires-clause-judged : goal.go_through-gone-requires-clause-judged
go_through-gone-requires-clause-judged g c =
    judged_begun c.args.setup.now c.args.held.now c.moment_of-now.result c.args.event.now c.in_ok-draft.draft
    c.args.judged c.in_ok-draft.ensures.draft c.in_ok-draft.ensures.bases c.moment_of-now.ensures c.requires.judged

pub go_through-gone-requires-clause-heard : goal.go_through-gone-requires-clause-heard
go_through-gone-requires-clause-heard g c =
    let P : Draft → Type 0 = λ d. IsHeardOf c.args.event.now c.args.heard.now d.state in
    subst P (sym c.in_ok-draft.ensures.draft)
    (heard_at c.args.event.now c.args.heard.now (state_in_held c.args.held.now) c.moment_of-now.result c.requires.heard)

pub go_through-gone-requires-clause-unsent : goal.go_through-gone-requires-clause-unsent
go_through-gone-requires-clause-unsent g c =
    nothing_sent c.args.held.now c.moment_of-now.result c.in_ok-draft.draft c.in_ok-draft.ensures.draft
    c.in_ok-draft.ensures.bases

pub go_through-gone-requires-clause-settled : goal.go_through-gone-requires-clause-settled
go_through-gone-requires-clause-settled g c =
    subst (WasSettled c.args.setup.now) (sym c.in_ok-draft.ensures.bases) c.requires.settled

pub go_through-gone-requires-clause-kept : goal.go_through-gone-requires-clause-kept
go_through-gone-requires-clause-kept g c =
    let p = c.args.setup.now in
    let s = state_in_held c.args.held.now in
    let e = c.args.event.now in
    let closed = closing_of c.args.closing.now in
    let begun = c.in_ok-draft.ensures.draft ∙ ap (λ n. untouched (at_moment n s)) c.moment_of-now.ensures in
    let x = settled_from p (draft_in c.in_ok-draft.draft) e closed in
    let is : x ≡ settled_of p s e closed = all_settled p s e closed _ _ _ _ begun refl refl refl in
    kept_settled p c.args.held.now e closed c.moment_of-now.result (bases c.in_ok-draft.draft) x c.args.composed.now
    c.in_ok-draft.ensures.bases is c.requires.kept

pub returns-in-Ok-clause-draft : goal.returns-in-Ok-clause-draft
returns-in-Ok-clause-draft g c =
    let p = c.args.setup.now in
    let s = state_in_held c.args.held.now in
    let e = c.args.event.now in
    let closed = closing_of c.args.closing.now in
    let begun = c.in_ok-draft.ensures.draft ∙ ap (λ n. untouched (at_moment n s)) c.moment_of-now.ensures in
    let x = settled_from p (draft_in c.in_ok-draft.draft) e closed in
    let is : x ≡ settled_of p s e closed = all_settled p s e closed _ _ _ _ begun refl refl refl in
    let before = subst (λ b. IsBefore b s) (sym c.in_ok-draft.ensures.bases)
    (stands_before c.moment_of-now.result c.args.held.now) in
    c.in-Ok.ensures.drafted s before ∙ ap (λ (d : Draft). tell p s (compose p d)) is

pub returns-in-Ok-clause-bases : goal.returns-in-Ok-clause-bases
returns-in-Ok-clause-bases g c =
    c.in-Ok.ensures.bases
    ∙ (c.in_ok-draft.ensures.bases ∙ ap (λ n. bases_of n c.args.held.now) c.moment_of-now.ensures)

pub returns-in-Ok-clause-kept : goal.returns-in-Ok-clause-kept
returns-in-Ok-clause-kept g c =
    let p = c.args.setup.now in
    let s = state_in_held c.args.held.now in
    let e = c.args.event.now in
    let closed = closing_of c.args.closing.now in
    let begun = c.in_ok-draft.ensures.draft ∙ ap (λ n. untouched (at_moment n s)) c.moment_of-now.ensures in
    let x = settled_from p (draft_in c.in_ok-draft.draft) e closed in
    let is : x ≡ settled_of p s e closed = all_settled p s e closed _ _ _ _ begun refl refl refl in
    subst (λ (d : Draft). IfSome c.go_through-gone.new.composed (IsComposedOf p d.state)) is
    c.in-Ok.ensures.kept

pub returns-in-Ok-clause-follows : goal.returns-in-Ok-clause-follows
returns-in-Ok-clause-follows g c some other =
    let p = c.args.setup.now in
    let s = state_in_held c.args.held.now in
    let e = c.args.event.now in
    let closed = closing_of c.args.closing.now in
    let begun = c.in_ok-draft.ensures.draft ∙ ap (λ n. untouched (at_moment n s)) c.moment_of-now.ensures in
    let x = settled_from p (draft_in c.in_ok-draft.draft) e closed in
    let is : x ≡ settled_of p s e closed = all_settled p s e closed _ _ _ _ begun refl refl refl in
    c.in-Ok.ensures.follows some (ap (λ (d : Draft). is_replaced d.reply) is ∙ other)

pub returns-in-Ok-clause-steps : goal.returns-in-Ok-clause-steps
returns-in-Ok-clause-steps g c =
    let p = c.args.setup.now in
    let s = state_in_held c.args.held.now in
    let e = c.args.event.now in
    let closed = closing_of c.args.closing.now in
    let begun = c.in_ok-draft.ensures.draft ∙ ap (λ n. untouched (at_moment n s)) c.moment_of-now.ensures in
    let x = settled_from p (draft_in c.in_ok-draft.draft) e closed in
    let is : x ≡ settled_of p s e closed = all_settled p s e closed _ _ _ _ begun refl refl refl in
    subst (λ (n : ℕ). c.go_through-gone.new.steps ≤ c.args.steps.now + kept_steps c.args.composed.now n)
    (drafted_steps p c.args.held.now c.moment_of-now.result (bases c.in_ok-draft.draft) x (settled_of p s e closed)
    c.in_ok-draft.ensures.bases is)
    c.go_through-gone.ensures.steps

-- so it is where memory is wanted

pub returns-in-Err-clause-steps : goal.returns-in-Err-clause-steps
returns-in-Err-clause-steps g c =
    let p = c.args.setup.now in
    let s = state_in_held c.args.held.now in
    let e = c.args.event.now in
    let closed = closing_of c.args.closing.now in
    let begun = c.in_ok-draft.ensures.draft ∙ ap (λ n. untouched (at_moment n s)) c.moment_of-now.ensures in
    let x = settled_from p (draft_in c.in_ok-draft.draft) e closed in
    let is : x ≡ settled_of p s e closed = all_settled p s e closed _ _ _ _ begun refl refl refl in
    subst (λ (n : ℕ). c.go_through-gone.new.steps ≤ c.args.steps.now + kept_steps c.args.composed.now n)
    (drafted_steps p c.args.held.now c.moment_of-now.result (bases c.in_ok-draft.draft) x (settled_of p s e closed)
    c.in_ok-draft.ensures.bases is)
    c.go_through-gone.ensures.steps

pub returns-in_err-draft-clause-steps : goal.returns-in_err-draft-clause-steps
returns-in_err-draft-clause-steps g c = no_more _ _
