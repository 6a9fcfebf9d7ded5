use Rattle.std.proofs.Common.{◌≡◌, ◌++◌, ℕ, List, [], ap₂, not, subst, sym}
use Rattle.std.specs.Prelude.{Option}
use Rattle.std.specs.List.{AllByRecursion, list_any}
use Rattle.member_state.specs.Plans.{after_planned}
use Rattle.member_state.specs.declared.planned.Planned.{Planned}
use Rattle.member_table.specs.Changes.{is_among}
use Rattle.member_table.specs.Entries.{has_serial}
use Rattle.member_table.specs.declared.entry.Entry.{Entry}
use Rattle.machine_drafts.specs.MemberDrafts.{IsPlannedOf, IsReadyPlan, LosesExactly, kept_after}
use Rattle.machine_drafts.proofs.Forgotten.{each_there}
use Rattle.machine_drafts.proofs.Remaining.{loses_exactly, other_number}
use Rattle.machine_drafts.proofs.member_draft.MemberDraft.lost.Goals as goal

-- of entries before, exactly those of these numbers are not among those now
abbrev AreLost : List ℕ → List Entry → List Entry → Type 0
AreLost lost before now =
    AllByRecursion (λ (e : Entry). list_any (has_serial e.serial) now ≡ not (is_among lost e.serial)) before

pub returns-in-Some : goal.returns-in-Some
returns-in-Some c =
    let x = c.self.inside in
    let h = x.base.now.kept in
    let p = c.in-Some.planned in
    let es = h.state.table.entries in
    let lost = c.as_slice.result.now ++ c.as_slice-in-Some.result.now in
    let plan = subst (IsPlannedOf h.state) c.in-Some.is c.self.invariant.1 in
    let ready = subst (IsReadyPlan h) c.in-Some.is c.self.invariant.0 in
    let table = c.table-table.ensures.sound.table in
    let named = loses_exactly h.state p x.moment table plan
    (other_number h p.change.removed p.change.added ready.change.added) es (each_there es) table.given in
    let read = subst (λ (ns : List ℕ). AreLost ns es (after_planned h.state p x.moment).table.entries)
    (sym (ap₂ (λ (ms ns : List ℕ). ms ++ ns) c.as_slice.ensures c.as_slice-in-Some.ensures)) named in
    subst (LosesExactly lost) c.self.view_is
    (subst (λ (o : Option Planned). AreLost lost es (kept_after h.state o x.moment).table.entries) (sym c.in-Some.is)
    read)

pub returns-in-None : goal.returns-in-None
returns-in-None c =
    let x = c.self.inside in
    let state = x.base.now.kept.state in
    let es = state.table.entries in
    subst (LosesExactly []) c.self.view_is
    (subst (λ (o : Option Planned). AreLost [] es (kept_after state o x.moment).table.entries) (sym c.in-None.is)
    (each_there es))
