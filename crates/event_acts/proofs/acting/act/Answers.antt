use Rattle.std.proofs.Common.{◌≡◌, ◌∙◌, List, ℕ, refl, ap, subst, sym}
use Rattle.std.specs.Prelude.{OnOk}
use Rattle.std.proofs.lemmas.Result.{on_ok_weaker}
use Rattle.events.specs.declared.event.Event.{Event}
use Rattle.events.specs.declared.event.Event.TheVariants.{Msg}
use Rattle.machine_meaning.specs.Acting.{act_on}
use Rattle.machine_meaning.specs.Drafts.{Draft}
use Rattle.machine_drafts.specs.InsideRequests.{AreSendable}
use Rattle.machine_drafts.specs.Outcomes.{draft_in}
use Rattle.event_acts.proofs.Acted.{frame_heard, frame_judged, frame_whole, tick_acts}
use Rattle.event_acts.proofs.SentStays.{gone_stays, replace_stays, tick_stays, up_stays}
use Rattle.event_acts.proofs.acting.act.Goals as goal

pub hears-requires-clause-frame : goal.hears-requires-clause-frame
hears-requires-clause-frame c =
    let session = c.in-Msg.session in
    let bytes = c.as_slice.result.now in
    frame_whole c.args.event.now session bytes
    (c.in-Msg.is ∙ ap (λ (bs : List ℕ). Msg session bs) (sym c.as_slice.ensures)) c.requires.whole

pub hears-requires-clause-judged : goal.hears-requires-clause-judged
hears-requires-clause-judged c =
    let session = c.in-Msg.session in
    let bytes = c.as_slice.result.now in
    frame_judged c.args.setup.now c.args.draft.now c.args.event.now session bytes c.args.judged
    (c.in-Msg.is ∙ ap (λ (bs : List ℕ). Msg session bs) (sym c.as_slice.ensures)) c.requires.judged

pub hears-requires-clause-tells : goal.hears-requires-clause-tells
hears-requires-clause-tells c =
    let session = c.in-Msg.session in
    let bytes = c.as_slice.result.now in
    (frame_heard c.args.event.now session bytes c.args.heard.now (draft_in c.args.draft.now).state
    (c.in-Msg.is ∙ ap (λ (bs : List ℕ). Msg session bs) (sym c.as_slice.ensures)) c.requires.heard).tells

pub hears-requires-clause-fits : goal.hears-requires-clause-fits
hears-requires-clause-fits c = c.requires.heard.fits

pub hears-requires-clause-last : goal.hears-requires-clause-last
hears-requires-clause-last c =
    let session = c.in-Msg.session in
    let bytes = c.as_slice.result.now in
    (frame_heard c.args.event.now session bytes c.args.heard.now (draft_in c.args.draft.now).state
    (c.in-Msg.is ∙ ap (λ (bs : List ℕ). Msg session bs) (sym c.as_slice.ensures)) c.requires.heard).taken_over

pub tick-requires-clause-few : goal.tick-requires-clause-few
tick-requires-clause-few c = c.requires.few

pub tick-requires-clause-fresh : goal.tick-requires-clause-fresh
tick-requires-clause-fresh c = c.requires.fresh

pub tick-requires-clause-timely : goal.tick-requires-clause-timely
tick-requires-clause-timely c = c.requires.timely

-- what each event does

pub returns-in-Up-clause-drafted : goal.returns-in-Up-clause-drafted
returns-in-Up-clause-drafted c =
    subst (λ (e : Event). OnOk c.comes_up.result
    (draft_in c.comes_up.new.draft ≡ act_on c.args.setup.now e (draft_in c.args.draft.now)))
    (sym c.in-Up.is) c.comes_up.ensures.drafted

pub returns-in-Msg-clause-drafted : goal.returns-in-Msg-clause-drafted
returns-in-Msg-clause-drafted c =
    subst (λ (e : Event). OnOk c.hears.result
    (draft_in c.hears.new.draft ≡ act_on c.args.setup.now e (draft_in c.args.draft.now)))
    (sym (c.in-Msg.is ∙ ap (λ (bs : List ℕ). Msg c.in-Msg.session bs) (sym c.as_slice.ensures)))
    c.hears.ensures.drafted

pub returns-in-Gone-clause-drafted : goal.returns-in-Gone-clause-drafted
returns-in-Gone-clause-drafted c =
    subst (λ (e : Event). OnOk c.goes.result
    (draft_in c.goes.new.draft ≡ act_on c.args.setup.now e (draft_in c.args.draft.now)))
    (sym c.in-Gone.is) c.goes.ensures.drafted

pub returns-in-Tick-clause-drafted : goal.returns-in-Tick-clause-drafted
returns-in-Tick-clause-drafted c =
    on_ok_weaker c.tick.result
    (λ f. f ∙ tick_acts c.args.setup.now c.args.event.now _ c.args.draft.now c.in-Tick.is c.requires.moment)
    c.tick.ensures.drafted

pub returns-in-Take-clause-drafted : goal.returns-in-Take-clause-drafted
returns-in-Take-clause-drafted c =
    ap (λ (e : Event). act_on c.args.setup.now e (draft_in c.args.draft.now)) (sym c.in-Take.is)

pub returns-in-Policy-clause-drafted : goal.returns-in-Policy-clause-drafted
returns-in-Policy-clause-drafted c =
    subst (λ (e : Event). OnOk c.replace.result
    (draft_in c.replace.new.draft ≡ act_on c.args.setup.now e (draft_in c.args.draft.now)))
    (sym c.in-Policy.is) c.replace.ensures.drafted

-- what stands beside the draft stays

pub returns-in-Up-clause-bases : goal.returns-in-Up-clause-bases
returns-in-Up-clause-bases c = c.comes_up.ensures.bases

pub returns-in-Msg-clause-bases : goal.returns-in-Msg-clause-bases
returns-in-Msg-clause-bases c = c.hears.ensures.bases

pub returns-in-Gone-clause-bases : goal.returns-in-Gone-clause-bases
returns-in-Gone-clause-bases c = c.goes.ensures.bases

pub returns-in-Tick-clause-bases : goal.returns-in-Tick-clause-bases
returns-in-Tick-clause-bases c = c.tick.ensures.bases

pub returns-in-Take-clause-bases : goal.returns-in-Take-clause-bases
returns-in-Take-clause-bases c = refl

pub returns-in-Policy-clause-bases : goal.returns-in-Policy-clause-bases
returns-in-Policy-clause-bases c = c.replace.ensures.bases

-- what leaves stays short

pub returns-in-Up-clause-sendable : goal.returns-in-Up-clause-sendable
returns-in-Up-clause-sendable c = λ all.
    on_ok_weaker c.comes_up.result
    (λ f. subst AreSendable
    (sym (ap (λ (d : Draft). d.sent) f
    ∙ up_stays c.args.setup.now c.in-Up.who c.in-Up.arp (draft_in c.args.draft.now)))
    all)
    c.comes_up.ensures.drafted

pub returns-in-Msg-clause-sendable : goal.returns-in-Msg-clause-sendable
returns-in-Msg-clause-sendable c = c.hears.ensures.sendable

pub returns-in-Gone-clause-sendable : goal.returns-in-Gone-clause-sendable
returns-in-Gone-clause-sendable c = λ all.
    on_ok_weaker c.goes.result
    (λ f. subst AreSendable
    (sym (ap (λ (d : Draft). d.sent) f ∙ gone_stays c.in-Gone.session.who (draft_in c.args.draft.now))) all)
    c.goes.ensures.drafted

pub returns-in-Tick-clause-sendable : goal.returns-in-Tick-clause-sendable
returns-in-Tick-clause-sendable c = λ all.
    on_ok_weaker c.tick.result
    (λ f. subst AreSendable
    (sym (ap (λ (d : Draft). d.sent) f
    ∙ tick_stays c.args.setup.now c.args.draft.now.moment (draft_in c.args.draft.now)))
    all)
    c.tick.ensures.drafted

pub returns-in-Take-clause-sendable : goal.returns-in-Take-clause-sendable
returns-in-Take-clause-sendable c = λ all. all

pub returns-in-Policy-clause-sendable : goal.returns-in-Policy-clause-sendable
returns-in-Policy-clause-sendable c = λ all.
    on_ok_weaker c.replace.result
    (λ f. subst AreSendable
    (sym (ap (λ (d : Draft). d.sent) f
    ∙ replace_stays c.args.setup.now c.in-Policy.v c.in-Policy.text (draft_in c.args.draft.now)))
    all)
    c.replace.ensures.drafted
