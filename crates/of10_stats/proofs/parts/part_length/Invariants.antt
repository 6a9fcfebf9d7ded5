use Rattle.std.proofs.Common.{◌≡◌, ◌+◌, ◌≤◌, drop}
use Rattle.of10_stats.specs.Parts.{taken}
use Rattle.of10_stats.proofs.parts.part_length.Given as goal

abbrev pub invariant-loop-entry : goal.invariant-loop-entry
invariant-loop-entry l = record {
  counted : l.count ≡ l.entry-index;
  used : l.used ≤ 65523;
  so_far : l.count + taken l.used (drop l.entry-index l.entries) ≡ taken 0 l.entries;
}
