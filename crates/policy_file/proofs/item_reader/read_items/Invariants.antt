use Rattle.std.proofs.Common.{◌≡◌, drop, []}
use Rattle.std.specs.List.{enumerate_from}
use Rattle.toml.specs.View.{table_view}
use Rattle.policy_file.specs.Plans.{items_after, items_of}
use Rattle.policy_file.specs.Listed.{items}
use Rattle.policy_file.proofs.item_reader.read_items.Given as goal

abbrev pub invariant-loop-number : goal.invariant-loop-number
invariant-loop-number g l =
    let reads = g.R.ItemReader.reads l.reader in
    items_after reads l.kind l.list (drop l.number (enumerate_from 0 (items (table_view l.file) l.kind)))
    ≡ items_of reads l.kind (table_view l.file)
