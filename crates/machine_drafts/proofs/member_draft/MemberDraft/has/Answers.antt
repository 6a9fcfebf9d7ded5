use Rattle.std.proofs.Common.{◌∙◌, ap, subst, sym}
use Rattle.std.specs.Prelude.{Option}
use Rattle.std.specs.List.{list_any}
use Rattle.member_state.specs.declared.planned.Planned.{Planned}
use Rattle.member_table.specs.Entries.{has_serial}
use Rattle.member_table.specs.Tables.{Held}
use Rattle.machine_drafts.specs.MemberDrafts.{IsPlannedOf, MemberDraftOf, kept_after, there_then}
use Rattle.machine_drafts.proofs.Remaining.{has_after}
use Rattle.machine_drafts.proofs.member_draft.MemberDraft.has.Goals as goal

pub returns-in-Some : goal.returns-in-Some
returns-in-Some c =
    let x = c.self.inside in
    let n = c.args.serial in
    let p = c.in-Some.planned in
    let state = x.base.now.kept.state in
    let plan = subst (IsPlannedOf state) c.in-Some.is c.self.invariant.1 in
    c.is_there_then.ensures
    ∙ (ap (there_then p n)
    (c.is_there-stood.ensures ∙ ap (λ (t : Held). list_any (has_serial n) t.table.entries) c.table.ensures.table)
    ∙ (sym (has_after state p x.moment c.table.ensures.sound.table plan n)
    ∙ (ap (λ (o : Option Planned). list_any (has_serial n) (kept_after state o x.moment).table.entries)
    (sym c.in-Some.is)
    ∙ ap (λ (d : MemberDraftOf). list_any (has_serial n) d.now.kept.table.entries) c.self.view_is)))

pub returns-in-None : goal.returns-in-None
returns-in-None c =
    let x = c.self.inside in
    let n = c.args.serial in
    c.is_there-stood.ensures
    ∙ (ap (λ (t : Held). list_any (has_serial n) t.table.entries) c.table.ensures.table
    ∙ (ap (λ (o : Option Planned). list_any (has_serial n) (kept_after x.base.now.kept.state o x.moment).table.entries)
    (sym c.in-None.is)
    ∙ ap (λ (d : MemberDraftOf). list_any (has_serial n) d.now.kept.table.entries) c.self.view_is))
