use Rattle.std.proofs.Common.{◌∙◌, sym, ap, map}
use Rattle.match_index.specs.Questions.{is_holding}
use Rattle.match_index.proofs.Counts.{same_any}
use Rattle.soft_net.specs.Entries.{has_serial, item_of}
use Rattle.soft_net.specs.InsideTables.{entries_in}
use Rattle.soft_net.specs.Tables.{TableOf, best_entry}
use Rattle.soft_net.proofs.Finding.{any_map, best_none, best_top}
use Rattle.std.proofs.Common.{find}
use Rattle.soft_net.proofs.table.Table.best.Goals as goal

pub returns-in-Some-clause-entry : goal.returns-in-Some-clause-entry
returns-in-Some-clause-entry c =
    let es = entries_in c.self.inside.entries.entries in
    let h = c.args.header.now in
    c.get.ensures.entry ∙ (ap (λ (o : TableOf). find (has_serial c.in-Some.top.id) o.entries) (sym c.self.view_is)
    ∙ (best_top h c.in-Some.top c.self.inside.index.items es c.self.invariant.listing.rising
    c.self.invariant.listing.ranked c.in-Some.ensures
    ∙ ap (λ (o : TableOf). best_entry o.entries h) c.self.view_is))

pub returns-in-None-clause-entry : goal.returns-in-None-clause-entry
returns-in-None-clause-entry c =
    let es = entries_in c.self.inside.entries.entries in
    let h = c.args.header.now in
    let none = sym (any_map (is_holding h) es)
    ∙ (sym (same_any c.self.inside.index.items (map item_of es) c.self.invariant.listing.ranked (is_holding h))
    ∙ c.in-None.ensures) in
    sym (best_none h es none) ∙ ap (λ (o : TableOf). best_entry o.entries h) c.self.view_is
