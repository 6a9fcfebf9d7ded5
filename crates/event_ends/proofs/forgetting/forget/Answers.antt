use Rattle.std.proofs.Common.{◌≡◌, ◌∙◌, List, ap, ap₂, refl}
use Rattle.std.specs.Prelude.{fold}
use Rattle.std.specs.List.{enumerate_from}
use Rattle.stats_map.specs.Told.{told}
use Rattle.machine_drafts.proofs.Forgotten.{forgotten_with, forgotten_without}
use Rattle.machine_drafts.specs.InsideForgetting.{forget_member, forget_owed}
use Rattle.machine_drafts.specs.MemberDrafts.{MemberDraftOf}
use Rattle.machine_drafts.specs.Outcomes.{draft_in, members_in}
use Rattle.machine_meaning.specs.declared.state.Owed.{Owed}
use Rattle.event_ends.proofs.forgetting.forget.Goals as goal

pub returns-then-is_unchanged-clause-drafted : goal.returns-then-is_unchanged-clause-drafted
returns-then-is_unchanged-clause-drafted c =
    λ before stood.
    let o = c.args.draft.now in
    let counts = told o.counts.now in
    let gone : told c.forget_members.new.counts.now
    ≡ fold (forget_member o.owed.now) counts (enumerate_from 0 o.members) =
    c.in_ok-forget_members.ensures.told
    ∙ ap₂ (λ (os : List Owed) (ms : List MemberDraftOf). fold (forget_member os) counts (enumerate_from 0 ms))
    c.as_slice.ensures c.as_slice-members.ensures in
    forgotten_without (draft_in o) before o.members o.owed.base (told c.forget_members.new.counts.now) stood.members
    stood.owed refl gone (c.is_unchanged.ensures c.if-is_unchanged.true)

pub returns-clause-drafted : goal.returns-clause-drafted
returns-clause-drafted c =
    λ before stood.
    let o = c.args.draft.now in
    let counts = told o.counts.now in
    let first = told c.forget_members.new.counts.now in
    let gone : first ≡ fold (forget_member o.owed.now) counts (enumerate_from 0 o.members) =
    c.in_ok-forget_members.ensures.told
    ∙ ap₂ (λ (os : List Owed) (ms : List MemberDraftOf). fold (forget_member os) counts (enumerate_from 0 ms))
    c.as_slice.ensures c.as_slice-members.ensures in
    let last : told c.forget_all_owed.new.counts.now
    ≡ fold (forget_owed (members_in o.members) o.owed.now) first o.owed.base =
    c.in_ok-forget_all_owed.ensures.told
    ∙ (ap₂ (λ (ms : List MemberDraftOf) (os : List Owed).
    fold (forget_owed (members_in ms) os) first c.before-old.result.now)
    c.as_slice-members.ensures c.as_slice-2.ensures
    ∙ ap (λ (os : List Owed). fold (forget_owed (members_in o.members) o.owed.now) first os)
    c.before-old.ensures) in
    forgotten_with (draft_in o) before o.members o.owed.base first stood.members stood.owed refl gone
    (told c.forget_all_owed.new.counts.now) last
