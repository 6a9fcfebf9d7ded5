use Rattle.std.proofs.Common.{◌≡◌, ◌∙◌, List, ℕ, ap₂, subst, sym}
use Rattle.std.specs.List.{flat_map}
use Rattle.std.specs.Prelude.{OnOk}
use Rattle.machine_meaning.specs.Drafts.{Draft}
use Rattle.machine_drafts.specs.InsideSwitches.{unanswered_among}
use Rattle.machine_drafts.specs.Outcomes.{draft_in, switches_in}
use Rattle.machine_drafts.specs.SwitchDrafts.{SwitchDraftOf}
use Rattle.machine_drafts.proofs.DraftFields.{barrier_later, barrier_now}
use Rattle.event_acts.proofs.barriers.barrier_asked.Goals as goal

pub returns-then-is_empty-clause-drafted : goal.returns-then-is_empty-clause-drafted
returns-then-is_empty-clause-drafted c =
    let parts = c.in_ok-parts.ensures
    ∙ ap₂ (λ (xs : List SwitchDraftOf) (ns : List ℕ). flat_map (unanswered_among (switches_in xs)) ns)
    c.as_slice.ensures c.switches_of.ensures in
    subst (λ (d : Draft). OnOk c.answer.result (draft_in c.answer.new.draft ≡ d))
    (barrier_now c.args.setup.now c.args.n c.args.v c.args.xid (draft_in c.args.draft.now) c.in_ok-parts.parts
    c.in_ok-barrier_reply.field-0 parts (sym c.if-is_empty.ensures) c.in_ok-barrier_reply.ensures)
    c.answer.ensures.drafted

pub returns-clause-drafted : goal.returns-clause-drafted
returns-clause-drafted c =
    let parts = c.in_ok-parts.ensures
    ∙ ap₂ (λ (xs : List SwitchDraftOf) (ns : List ℕ). flat_map (unanswered_among (switches_in xs)) ns)
    c.as_slice.ensures c.switches_of.ensures in
    subst (λ (d : Draft). OnOk c.begin_waiting.result (draft_in c.begin_waiting.new.draft ≡ d))
    (barrier_later c.args.setup.now c.args.n c.args.v c.args.xid (draft_in c.args.draft.now) c.in_ok-parts.parts parts
    (sym c.if-is_empty.ensures))
    c.begin_waiting.ensures.drafted
