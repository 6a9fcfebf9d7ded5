use Rattle.std.proofs.Common.{◌≡◌, List, ℕ, [], ◌∷◌, ap, subst, ◌∙◌}
use Rattle.std.specs.Prelude.{OnOk}
use Rattle.member_replies.specs.Switches.{features as features_of}
use Rattle.machine_meaning.specs.Drafts.{answering, message}
use Rattle.machine_drafts.specs.InsideSwitches.{dark_ports_among}
use Rattle.machine_meaning.specs.Names.{virtual_dpid, virtual_of}
use Rattle.machine_drafts.specs.Outcomes.{draft_in, switches_in}
use Rattle.machine_drafts.specs.SwitchDrafts.{SwitchDraftOf}
use Rattle.event_acts.proofs.member_messages.features.Goals as goal

pub returns-clause-drafted : goal.returns-clause-drafted
returns-clause-drafted c =
    let p = c.args.setup.now in
    let m = c.args.m.now in
    subst
    (λ (bs : List ℕ). OnOk c.answer.result
    (draft_in c.answer.new.draft ≡ answering c.args.n (bs ∷ []) (draft_in c.args.draft.now)))
    (c.in_ok-bytes.ensures
    ∙ ap (λ (xs : List SwitchDraftOf). message c.args.xid
    (features_of (virtual_dpid p (virtual_of m)) m.grant (virtual_of m)
    (dark_ports_among p (switches_in xs) (virtual_of m))))
    c.as_slice.ensures)
    c.answer.ensures.drafted
