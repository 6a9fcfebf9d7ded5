use Rattle.std.proofs.Common.{◌≡◌, List, ap, filter, subst, sym, ◌∙◌}
use Rattle.std.specs.Prelude.{IfOk}
use Rattle.member_state.specs.Changes.{is_told, removed_by}
use Rattle.member_state.specs.States.{MemberStateOf}
use Rattle.member_table.specs.declared.entry.Entry.{Entry}
use Rattle.machine_drafts.specs.MemberDrafts.{MemberDraftOf}
use Rattle.event_acts.proofs.Changes.{same_there}
use Rattle.event_acts.proofs.flow_mods.told_at.Goals as goal

pub returns : goal.returns
returns c = λ x there.
    let found = same_there c.args.members.now c.args.n x c.index-members-n.result there c.index-members-n.is in
    subst
    (λ (k : MemberStateOf). IfOk c.told_removed-told.result
    (λ (told : List Entry). told ≡ filter is_told (removed_by c.args.change.now k)))
    (c.state.ensures ∙ (c.in_ok-kept.ensures ∙ ap (λ (z : MemberDraftOf). z.now.kept) (sym found)))
    c.told_removed-told.ensures
