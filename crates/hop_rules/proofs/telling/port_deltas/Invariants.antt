use Rattle.std.proofs.Common.{◌≡◌, ◌+◌, length}
use Rattle.std.specs.Vec.Iter.{into_iter_len}
use Rattle.hop_rules.specs.Telling.{deltas_from}
use Rattle.hop_rules.proofs.telling.port_deltas.Given as goal

abbrev pub invariant-loop-told : goal.invariant-loop-told
invariant-loop-told l = record {
  number : l.number ≡ length l.yielded;
  left : l.number + into_iter_len l.told-iterator ≡ length l.level.stands;
  deltas : l.deltas ≡ deltas_from l.level.stands l.level.nodes 0 l.yielded;
}
