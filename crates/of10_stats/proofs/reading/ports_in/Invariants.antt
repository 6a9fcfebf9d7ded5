use Rattle.std.proofs.Common.{◌≡◌, ◌-◌, ◌≤◌, length, drop}
use Rattle.of10_stats.specs.Reading.{port_at, items_at}
use Rattle.of10_stats.specs.Spelling.{port_size}
use Rattle.of10_stats.proofs.Items.{with_front}
use Rattle.of10_stats.proofs.reading.ports_in.Given as goal

abbrev pub invariant-loop-at : goal.invariant-loop-at
invariant-loop-at l = record {
  within : l.at ≤ length l.bytes;
  so_far : with_front l.ports (items_at port_at port_size 0 (drop l.at l.bytes)) ≡ items_at port_at port_size 0 l.bytes;
}

abbrev pub decreases-loop-at : goal.decreases-loop-at
decreases-loop-at l = length l.bytes - l.at
