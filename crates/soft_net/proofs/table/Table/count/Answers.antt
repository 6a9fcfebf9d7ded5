use Rattle.std.proofs.Common.{◌∙◌, ap, refl, List}
use Rattle.indexmap.specs.IndexMap.{get}
use Rattle.soft_net.specs.Counting.{counted}
use Rattle.soft_net.specs.Entries.{same_key}
use Rattle.soft_net.specs.Tables.{TableOf, changed_at}
use Rattle.soft_net.specs.declared.entry.SoftEntry.{SoftEntry}
use Rattle.soft_net.proofs.Changed.{changed_kept}
use Rattle.soft_net.proofs.table.Table.count.Goals as goal

pub invariant_of-self : goal.invariant_of-self
invariant_of-self c =
    (changed_kept c.args.serial (counted c.args.bytes) c.self.inside.entries.entries c.count_in.new.entries.entries
    (get same_key c.self.inside.keys) c.self.inside.index.items c.self.inside.next (λ e. refl) (λ e. refl)
    (λ e w. record { clear = w.clear; read = w.read; actions = w.actions }) c.self.invariant c.count_in.ensures).0

pub returns : goal.returns
returns c =
    let r = changed_kept c.args.serial (counted c.args.bytes) c.self.inside.entries.entries
    c.count_in.new.entries.entries (get same_key c.self.inside.keys) c.self.inside.index.items c.self.inside.next
    (λ e. refl) (λ e. refl) (λ e w. record { clear = w.clear; read = w.read; actions = w.actions }) c.self.invariant
    c.count_in.ensures in
    let V : List SoftEntry → TableOf = λ xs. record { entries = xs; next = c.self.inside.next } in
    ap V r.1 ∙ ap (λ (o : TableOf). changed_at c.args.serial (counted c.args.bytes) o) c.self.view_is
