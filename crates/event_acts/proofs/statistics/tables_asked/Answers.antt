use Rattle.std.proofs.Common.{◌≡◌, List, ℕ, Some, slice_get, subst, sym}
use Rattle.std.specs.Prelude.{OnOk}
use Rattle.machine_meaning.specs.Drafts.{answering}
use Rattle.machine_drafts.specs.MemberDrafts.{MemberDraftOf}
use Rattle.machine_drafts.specs.Outcomes.{draft_in}
use Rattle.event_acts.proofs.statistics.tables_asked.Goals as goal

pub returns-clause-drafted : goal.returns-clause-drafted
returns-clause-drafted c = λ x there.
    let here =
    subst (λ (ms : List MemberDraftOf). slice_get ms c.args.n ≡ Some x) (sym c.as_slice.ensures) there in
    subst
    (λ (ms : List (List ℕ)). OnOk c.answer_all.result
    (draft_in c.answer_all.new.draft ≡ answering c.args.n ms (draft_in c.args.draft.now)))
    (c.in_ok-sent.ensures x here) c.answer_all.ensures.drafted
