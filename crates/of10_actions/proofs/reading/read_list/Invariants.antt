use Rattle.std.proofs.Common.{◌≡◌, ◌-◌, ◌≤◌, length, drop}
use Rattle.of10_actions.specs.Reading.{actions_at, reading}
use Rattle.of10_actions.proofs.Lists.{with_front}
use Rattle.of10_actions.proofs.reading.read_list.Given as goal

abbrev pub invariant-loop-at : goal.invariant-loop-at
invariant-loop-at l = record {
  within : l.at ≤ length l.bytes;
  so_far : with_front l.list (actions_at 0 l.at (drop l.at l.bytes)) ≡ reading l.bytes;
}

abbrev pub decreases-loop-at : goal.decreases-loop-at
decreases-loop-at l = length l.bytes - l.at
