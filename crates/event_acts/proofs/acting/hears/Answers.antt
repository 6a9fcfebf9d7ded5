use Rattle.std.proofs.Common.{◌≡◌, ◌∙◌, refl, ap, subst, sym}
use Rattle.std.specs.Prelude.{OnOk}
use Rattle.std.proofs.lemmas.Result.{on_ok_weaker}
use Rattle.cv_io.specs.declared.leaf.Who.{Who}
use Rattle.machine_meaning.specs.Acting.{sends}
use Rattle.machine_meaning.specs.Drafts.{Draft}
use Rattle.event_acts.specs.Acts.{WasJudgedFrom}
use Rattle.machine_drafts.specs.InsideRequests.{AreSendable}
use Rattle.machine_drafts.specs.Outcomes.{draft_in}
use Rattle.event_acts.specs.Overtaking.{AreTakenOver, sent_heard}
use Rattle.event_acts.proofs.SentStays.{switch_stays}
use Rattle.event_acts.proofs.acting.hears.Goals as goal

pub hears_judged-requires-clause-frame : goal.hears_judged-requires-clause-frame
hears_judged-requires-clause-frame c = c.requires.frame

pub hears_judged-requires-clause-judged : goal.hears_judged-requires-clause-judged
hears_judged-requires-clause-judged c =
    subst (λ (w : Who). WasJudgedFrom c.args.setup.now c.args.draft.now w c.args.frame.now c.args.judged)
    c.in-Member.is c.requires.judged

pub hears_switch-requires-clause-heard : goal.hears_switch-requires-clause-heard
hears_switch-requires-clause-heard c = c.requires.fits

pub hears_switch-requires-clause-last : goal.hears_switch-requires-clause-last
hears_switch-requires-clause-last c =
    subst (λ (w : Who). AreTakenOver w c.args.heard.now (draft_in c.args.draft.now).state)
    c.in-Switch.is c.requires.last

pub returns-in-Member-clause-drafted : goal.returns-in-Member-clause-drafted
returns-in-Member-clause-drafted c =
    subst (λ (w : Who). OnOk c.hears_judged.result
    (draft_in c.hears_judged.new.draft ≡ sends c.args.setup.now w c.args.frame.now (draft_in c.args.draft.now)))
    (sym c.in-Member.is) c.hears_judged.ensures.drafted

pub returns-in-Member-clause-bases : goal.returns-in-Member-clause-bases
returns-in-Member-clause-bases c = c.hears_judged.ensures.bases

pub returns-in-Member-clause-sendable : goal.returns-in-Member-clause-sendable
returns-in-Member-clause-sendable c = c.hears_judged.ensures.sendable

pub returns-in-Switch-clause-drafted : goal.returns-in-Switch-clause-drafted
returns-in-Switch-clause-drafted c =
    let frame = c.args.frame.now in
    let tells = c.requires.tells ∙ ap (λ (w : Who). sent_heard w frame) c.in-Switch.is in
    on_ok_weaker c.hears_switch.result
    (λ f. f frame tells
    ∙ ap (λ (w : Who). sends c.args.setup.now w frame (draft_in c.args.draft.now)) (sym c.in-Switch.is))
    c.hears_switch.ensures.drafted

pub returns-in-Switch-clause-bases : goal.returns-in-Switch-clause-bases
returns-in-Switch-clause-bases c = c.hears_switch.ensures.bases

pub returns-in-Switch-clause-sendable : goal.returns-in-Switch-clause-sendable
returns-in-Switch-clause-sendable c = λ all.
    let frame = c.args.frame.now in
    let tells = c.requires.tells ∙ ap (λ (w : Who). sent_heard w frame) c.in-Switch.is in
    on_ok_weaker c.hears_switch.result
    (λ f. subst AreSendable
    (sym (ap (λ (d : Draft). d.sent) (f frame tells)
    ∙ switch_stays c.args.setup.now c.in-Switch.n frame (draft_in c.args.draft.now)))
    all)
    c.hears_switch.ensures.drafted

pub returns-in-Audit-clause-drafted : goal.returns-in-Audit-clause-drafted
returns-in-Audit-clause-drafted c =
    ap (λ (w : Who). sends c.args.setup.now w c.args.frame.now (draft_in c.args.draft.now)) (sym c.in-Audit.is)

pub returns-in-Audit-clause-bases : goal.returns-in-Audit-clause-bases
returns-in-Audit-clause-bases c = refl

pub returns-in-Audit-clause-sendable : goal.returns-in-Audit-clause-sendable
returns-in-Audit-clause-sendable c = λ all. all
