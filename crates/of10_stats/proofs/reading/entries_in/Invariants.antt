use Rattle.std.proofs.Common.{◌≡◌, ◌-◌, ◌≤◌, length, drop}
use Rattle.of10_stats.specs.Reading.{entry_at, items_at}
use Rattle.of10_stats.specs.Spelling.{entry_size}
use Rattle.of10_stats.proofs.Items.{with_front}
use Rattle.of10_stats.proofs.reading.entries_in.Given as goal

abbrev pub invariant-loop-at : goal.invariant-loop-at
invariant-loop-at l = record {
  within : l.at ≤ length l.bytes;
  so_far : with_front l.entries (items_at entry_at entry_size 0 (drop l.at l.bytes))
      ≡ items_at entry_at entry_size 0 l.bytes;
}

abbrev pub decreases-loop-at : goal.decreases-loop-at
decreases-loop-at l = length l.bytes - l.at
