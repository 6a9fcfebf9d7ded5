use Rattle.std.proofs.Common.{◌∙◌, sym, ap, find}
use Rattle.std.specs.BTreeMap.{is_at}
use Rattle.std.specs.Map.{lookup}
use Rattle.std.specs.Ordering.{nat_cmp}
use Rattle.soft_net.specs.Entries.{has_serial}
use Rattle.soft_net.specs.InsideTables.{entries_in}
use Rattle.soft_net.specs.Tables.{TableOf}
use Rattle.soft_net.proofs.Listing.{lookup_under}
use Rattle.soft_net.proofs.Keeping.{if_found}
use Rattle.soft_net.proofs.table.Table.get.Goals as goal

pub returns-clause-entry : goal.returns-clause-entry
returns-clause-entry c =
    c.get.ensures.value ∙ (ap (lookup (is_at (nat_cmp c.args.serial))) c.self.invariant.listing.listed
    ∙ (lookup_under c.args.serial (entries_in c.self.inside.entries.entries)
    ∙ ap (λ (o : TableOf). find (has_serial c.args.serial) o.entries) c.self.view_is))

pub returns-clause-written : goal.returns-clause-written
returns-clause-written c =
    if_found (has_serial c.args.serial) (entries_in c.self.inside.entries.entries) _
    (sym (c.get.ensures.value ∙ (ap (lookup (is_at (nat_cmp c.args.serial))) c.self.invariant.listing.listed
    ∙ lookup_under c.args.serial (entries_in c.self.inside.entries.entries)))) c.self.invariant.listing.written
