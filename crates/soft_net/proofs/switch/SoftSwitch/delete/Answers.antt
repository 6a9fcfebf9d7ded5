use Rattle.std.proofs.Common.{◌≡◌, ◌∙◌, ap, filter, find, Some}
use Rattle.std.specs.Prelude.{flat_map}
use Rattle.soft_net.specs.Entries.{has_serial}
use Rattle.soft_net.specs.InsideTables.{removal_if}
use Rattle.soft_net.specs.Tables.{is_selected, without_all}
use Rattle.soft_net.specs.declared.entry.SoftEntry.{SoftEntry}
use Rattle.soft_net.proofs.Listing.{all_filter}
use Rattle.soft_net.proofs.Selected.{own_serial, told_are, without_are}
use Rattle.soft_net.proofs.switch.SoftSwitch.delete.Goals as goal

pub returns-clause-table : goal.returns-clause-table
returns-clause-table c =
    let t = c.args.self.now.table in
    let p = is_selected c.args.selection.now c.args.m.now.out_port in
    c.take_all.ensures ∙ (ap (λ ss. without_all ss t) (c.as_slice-2.ensures ∙ c.in_ok-serials.ensures.serials)
    ∙ without_are p t c.selected.ensures.rising)

pub returns-clause-answers : goal.returns-clause-answers
returns-clause-answers c =
    let es = c.args.self.now.table.entries in
    let p = is_selected c.args.selection.now c.args.m.now.out_port in
    c.in_ok-told.ensures ∙ (ap (flat_map (λ s. removal_if (find (has_serial s) es)))
    (c.as_slice.ensures ∙ c.in_ok-serials.ensures.serials)
    ∙ told_are removal_if es (filter p es)
    (all_filter (λ (e : SoftEntry). find (has_serial e.serial) es ≡ Some e) p es
    (own_serial es c.selected.ensures.rising)))
