use Rattle.bench_parts.proofs.Entries.{sound-table}
use Rattle.bench_parts.proofs.compose.asked.Asked.table.Goals as goal

pub returns : goal.returns
returns c =
    sound-table c.args.member c.in_ok-region.region c.in_ok-visible.visible c.in_ok-entries.entries
    c.in_ok-entries.ensures c.in_ok-region.ensures
    c.in_ok-visible.ensures
