use Rattle.std.proofs.Common.{◌-◌, ◌≤◌, ◌++◌, vec_capacity, vec_len}
use Rattle.match_index.specs.InsideGroups.{SameItems, in_groups}
use Rattle.match_index.proofs.groups.settle.Given as goal

abbrev pub invariant-loop-item : goal.invariant-loop-item
invariant-loop-item l = record {
  same : SameItems (l.initial.late.items ++ in_groups l.initial.groups.items)
      (l.late.items ++ in_groups l.groups.items);
  room : vec_capacity l.initial.late - vec_len l.initial.late ≤ vec_capacity l.late - vec_len l.late;
}

abbrev pub decreases-loop-item : goal.decreases-loop-item
decreases-loop-item l = vec_len l.late
