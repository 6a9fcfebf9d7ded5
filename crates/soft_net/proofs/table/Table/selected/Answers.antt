use Rattle.std.proofs.Common.{◌≡◌, ◌∙◌, ap, filter, find, Some}
use Rattle.std.specs.Prelude.{flat_map}
use Rattle.soft_net.specs.Entries.{has_serial}
use Rattle.soft_net.specs.InsideTables.{number_if}
use Rattle.soft_net.specs.Tables.{is_meant}
use Rattle.soft_net.specs.declared.entry.SoftEntry.{SoftEntry}
use Rattle.soft_net.proofs.Listing.{all_filter}
use Rattle.soft_net.proofs.Selected.{numbers_are, own_serial, told_are}
use Rattle.soft_net.proofs.table.Table.selected.Goals as goal

pub returns-clause-serials : goal.returns-clause-serials
returns-clause-serials c =
    let es = c.args.self.now.entries in
    let port = c.args.out_port in
    let p = is_meant c.args.selection.now in
    c.in_ok-selected.ensures ∙ (ap (flat_map (λ s. number_if port (find (has_serial s) es)))
    (c.as_slice.ensures ∙ c.in_ok-meant.ensures.serials)
    ∙ (told_are (number_if port) es (filter p es)
    (all_filter (λ (e : SoftEntry). find (has_serial e.serial) es ≡ Some e) p es (own_serial es c.meant.ensures.rising))
    ∙ numbers_are p port es))
