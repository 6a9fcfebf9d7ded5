use Rattle.std.proofs.Common.{◌≡◌, ◌∙◌, ◌+◌, ◌≤◌, refl, sym, ap, subst}
use Rattle.std.specs.Prelude.{IfSome}
use Rattle.event_acts.proofs.Acted.{sendable_after}
use Rattle.event_composes.specs.Costs.{is_replaced, kept_steps, turning_from}
use Rattle.hyper_core.specs.Drafting.{settled_from}
use Rattle.event_composes.specs.Kept.{IsComposedOf, IsKeptBy}
use Rattle.event_composes.specs.Settled.{WasSettled}
use Rattle.event_composes.proofs.Bounds.{no_more}
use Rattle.event_composes.proofs.Phased.{few_of}
use Rattle.event_ends.specs.Closings.{closing_of}
use Rattle.machine_drafts.specs.Outcomes.{AreTimely, Bases, IsBefore, bases, draft_in}
use Rattle.machine_meaning.specs.Composing.{compose}
use Rattle.machine_meaning.specs.Drafts.{Draft}
use Rattle.machine_meaning.specs.Rounds.{close}
use Rattle.machine_meaning.specs.Settling.{settle}
use Rattle.machine_meaning.specs.Telling.{tell}
use Rattle.hyper_core.proofs.drafting.go_through.Goals as goal

pub act-requires-clause-few : goal.act-requires-clause-few
act-requires-clause-few g c = few_of c.args.draft.now (bases c.args.draft.now) refl c.requires.numbers

pub act-requires-clause-fresh : goal.act-requires-clause-fresh
act-requires-clause-fresh g c = c.requires.fresh

pub act-requires-clause-timely : goal.act-requires-clause-timely
act-requires-clause-timely g c = c.requires.timely

pub act-requires-clause-moment : goal.act-requires-clause-moment
act-requires-clause-moment g c = c.requires.moment

pub act-requires-clause-whole : goal.act-requires-clause-whole
act-requires-clause-whole g c = c.requires.whole

pub act-requires-clause-judged : goal.act-requires-clause-judged
act-requires-clause-judged g c = c.requires.judged

pub act-requires-clause-heard : goal.act-requires-clause-heard
act-requires-clause-heard g c = c.requires.heard

pub settle-requires : goal.settle-requires
settle-requires g c = subst AreTimely (sym (c.in_ok-close.ensures.bases ∙ c.in_ok-act.ensures.bases)) c.requires.timely

pub compose-requires-clause-settled : goal.compose-requires-clause-settled
compose-requires-clause-settled g c =
    subst (WasSettled c.args.setup.now)
    (sym (c.in_ok-settle.ensures.bases ∙ (c.in_ok-close.ensures.bases ∙ c.in_ok-act.ensures.bases))) c.requires.settled

pub compose-requires-clause-kept : goal.compose-requires-clause-kept
compose-requires-clause-kept g c =
    let p = c.args.setup.now in
    let o = c.args.draft.now in
    let closed = closing_of c.args.closing.now in
    let beside : bases c.settle.new.draft ≡ bases o =
    c.in_ok-settle.ensures.bases ∙ (c.in_ok-close.ensures.bases ∙ c.in_ok-act.ensures.bases) in
    let is : draft_in c.settle.new.draft ≡ settled_from p (draft_in o) c.args.event.now closed =
    c.in_ok-settle.ensures.drafted
    ∙ ap (settle p) (c.in_ok-close.ensures.drafted ∙ ap (close closed) c.in_ok-act.ensures.drafted) in
    subst (λ (x : Bases × Draft). IfSome c.args.composed.now (IsKeptBy p x.0 x.1.state))
    (λ i. (sym beside i, sym is i)) c.requires.kept

pub tell-requires-clause-few : goal.tell-requires-clause-few
tell-requires-clause-few g c =
    few_of c.compose.new.draft (bases c.args.draft.now)
    (c.in_ok-compose.ensures.bases ∙ (c.in_ok-settle.ensures.bases ∙ (c.in_ok-close.ensures.bases
    ∙ c.in_ok-act.ensures.bases)))
    c.requires.numbers

pub tell-requires-clause-sendable : goal.tell-requires-clause-sendable
tell-requires-clause-sendable g c =
    sendable_after c.args.setup.now (closing_of c.args.closing.now) (draft_in c.act.new.draft)
    (draft_in c.close.new.draft) (draft_in c.settle.new.draft) (draft_in c.compose.new.draft)
    c.in_ok-close.ensures.drafted c.in_ok-settle.ensures.drafted c.in_ok-compose.ensures.drafted
    (c.in_ok-act.ensures.sendable c.requires.unsent)

pub returns-clause-drafted : goal.returns-clause-drafted
returns-clause-drafted g c before stands =
    let p = c.args.setup.now in
    let o = c.args.draft.now in
    let closed = closing_of c.args.closing.now in
    let beside : bases c.settle.new.draft ≡ bases o =
    c.in_ok-settle.ensures.bases ∙ (c.in_ok-close.ensures.bases ∙ c.in_ok-act.ensures.bases) in
    let is : draft_in c.settle.new.draft ≡ settled_from p (draft_in o) c.args.event.now closed =
    c.in_ok-settle.ensures.drafted
    ∙ ap (settle p) (c.in_ok-close.ensures.drafted ∙ ap (close closed) c.in_ok-act.ensures.drafted) in
    let all : bases c.compose.new.draft ≡ bases c.args.draft.now = c.in_ok-compose.ensures.bases ∙ beside in
    c.in_ok-tell.ensures.drafted before (subst (λ (b : Bases). IsBefore b before) (sym all) stands)
    ∙ ap (tell p before) (c.in_ok-compose.ensures.drafted ∙ ap (compose p) is)

pub returns-clause-bases : goal.returns-clause-bases
returns-clause-bases g c =
    c.in_ok-tell.ensures.bases ∙ (c.in_ok-compose.ensures.bases ∙ (c.in_ok-settle.ensures.bases
    ∙ (c.in_ok-close.ensures.bases ∙ c.in_ok-act.ensures.bases)))

pub returns-clause-kept : goal.returns-clause-kept
returns-clause-kept g c =
    let p = c.args.setup.now in
    let o = c.args.draft.now in
    let closed = closing_of c.args.closing.now in
    let beside : bases c.settle.new.draft ≡ bases o =
    c.in_ok-settle.ensures.bases ∙ (c.in_ok-close.ensures.bases ∙ c.in_ok-act.ensures.bases) in
    let is : draft_in c.settle.new.draft ≡ settled_from p (draft_in o) c.args.event.now closed =
    c.in_ok-settle.ensures.drafted
    ∙ ap (settle p) (c.in_ok-close.ensures.drafted ∙ ap (close closed) c.in_ok-act.ensures.drafted) in
    subst (λ (d : Draft). IfSome c.compose.new.composed (IsComposedOf p d.state)) is c.in_ok-compose.ensures.kept

pub returns-clause-follows : goal.returns-clause-follows
returns-clause-follows g c some other =
    let p = c.args.setup.now in
    let o = c.args.draft.now in
    let closed = closing_of c.args.closing.now in
    let beside : bases c.settle.new.draft ≡ bases o =
    c.in_ok-settle.ensures.bases ∙ (c.in_ok-close.ensures.bases ∙ c.in_ok-act.ensures.bases) in
    let is : draft_in c.settle.new.draft ≡ settled_from p (draft_in o) c.args.event.now closed =
    c.in_ok-settle.ensures.drafted
    ∙ ap (settle p) (c.in_ok-close.ensures.drafted ∙ ap (close closed) c.in_ok-act.ensures.drafted) in
    c.in_ok-compose.ensures.follows some (ap (λ (d : Draft). is_replaced d.reply) is ∙ other)

pub returns-clause-steps : goal.returns-clause-steps
returns-clause-steps g c =
    let p = c.args.setup.now in
    let o = c.args.draft.now in
    let closed = closing_of c.args.closing.now in
    let beside : bases c.settle.new.draft ≡ bases o =
    c.in_ok-settle.ensures.bases ∙ (c.in_ok-close.ensures.bases ∙ c.in_ok-act.ensures.bases) in
    let is : draft_in c.settle.new.draft ≡ settled_from p (draft_in o) c.args.event.now closed =
    c.in_ok-settle.ensures.drafted
    ∙ ap (settle p) (c.in_ok-close.ensures.drafted ∙ ap (close closed) c.in_ok-act.ensures.drafted) in
    subst
    (λ (x : Bases × Draft).
    c.compose.new.steps ≤ c.args.steps.now + kept_steps c.args.composed.now (turning_from p x.0 x.1.state))
    (λ i. (beside i, is i)) c.compose.ensures.steps

-- so it is where memory is wanted

pub returns-in_err-compose-clause-steps : goal.returns-in_err-compose-clause-steps
returns-in_err-compose-clause-steps g c =
    let p = c.args.setup.now in
    let o = c.args.draft.now in
    let closed = closing_of c.args.closing.now in
    let beside : bases c.settle.new.draft ≡ bases o =
    c.in_ok-settle.ensures.bases ∙ (c.in_ok-close.ensures.bases ∙ c.in_ok-act.ensures.bases) in
    let is : draft_in c.settle.new.draft ≡ settled_from p (draft_in o) c.args.event.now closed =
    c.in_ok-settle.ensures.drafted
    ∙ ap (settle p) (c.in_ok-close.ensures.drafted ∙ ap (close closed) c.in_ok-act.ensures.drafted) in
    subst
    (λ (x : Bases × Draft).
    c.compose.new.steps ≤ c.args.steps.now + kept_steps c.args.composed.now (turning_from p x.0 x.1.state))
    (λ i. (beside i, is i)) c.compose.ensures.steps

pub returns-in_err-tell-clause-steps : goal.returns-in_err-tell-clause-steps
returns-in_err-tell-clause-steps g c =
    let p = c.args.setup.now in
    let o = c.args.draft.now in
    let closed = closing_of c.args.closing.now in
    let beside : bases c.settle.new.draft ≡ bases o =
    c.in_ok-settle.ensures.bases ∙ (c.in_ok-close.ensures.bases ∙ c.in_ok-act.ensures.bases) in
    let is : draft_in c.settle.new.draft ≡ settled_from p (draft_in o) c.args.event.now closed =
    c.in_ok-settle.ensures.drafted
    ∙ ap (settle p) (c.in_ok-close.ensures.drafted ∙ ap (close closed) c.in_ok-act.ensures.drafted) in
    subst
    (λ (x : Bases × Draft).
    c.compose.new.steps ≤ c.args.steps.now + kept_steps c.args.composed.now (turning_from p x.0 x.1.state))
    (λ i. (beside i, is i)) c.compose.ensures.steps

pub returns-in_err-act-clause-steps : goal.returns-in_err-act-clause-steps
returns-in_err-act-clause-steps g c = no_more _ _

pub returns-in_err-close-clause-steps : goal.returns-in_err-close-clause-steps
returns-in_err-close-clause-steps g c = no_more _ _

pub returns-in_err-settle-clause-steps : goal.returns-in_err-settle-clause-steps
returns-in_err-settle-clause-steps g c = no_more _ _
