use Rattle.of10_match.specs.Ranges.{IsMatch}
use Rattle.switch_meaning.specs.declared.entry.PhysEntry.{PhysEntry}
use Rattle.switch_tables.proofs.Sets.{all-more}
use Rattle.switch_tables.proofs.switch_table.are_in_range.Goals as goal

pub loop-entry-preserved : goal.loop-entry-preserved
loop-entry-preserved c =
    all-more (λ (e : PhysEntry). IsMatch e.m) c.as_slice-entry-items.result.now c.loop-entry.entry-index
    c.entry-item.result
    c.loop-entry-test.true c.entry-item.is c.is_in_range.ensures c.loop-entry.invariant
