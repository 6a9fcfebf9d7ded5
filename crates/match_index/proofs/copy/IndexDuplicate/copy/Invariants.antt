use Rattle.std.proofs.Common.{◌≡◌, ◌+◌, map, length}
use Rattle.std.specs.Map.Iter.{deref}
use Rattle.match_index.proofs.copy.IndexDuplicate.copy.Given as goal

abbrev pub invariant-loop-item : goal.invariant-loop-item
invariant-loop-item l = record {
  items : l.copied.items ≡ map deref l.yielded;
  room : l.copied.room + length l.yielded ≡ l.initial.copied.room;
}
