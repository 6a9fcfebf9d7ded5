use Rattle.std.proofs.Common.{◌≡◌, map}
use Rattle.std.specs.List.{range_with_len}
use Rattle.composed_tables.specs.Placing.{entry_delta}
use Rattle.composed_tables.proofs.placing.entry_deltas.Given as goal

abbrev pub invariant-loop-n : goal.invariant-loop-n
invariant-loop-n l = l.all ≡ map (entry_delta l.wiring l.switches l.deltas) (range_with_len 0 l.n)
