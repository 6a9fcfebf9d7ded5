use Rattle.std.proofs.Common.{◌≡◌, ◌++◌}
use Rattle.std.specs.Prelude.{filter_map}
use Rattle.std.specs.List.{range_with_len}
use Rattle.place_rules.specs.Joined.{hop_from}
use Rattle.place_rules.proofs.joining.push_hops.Given as goal

-- those to the switches so far
abbrev pub invariant-loop-to : goal.invariant-loop-to
invariant-loop-to l = l.list ≡ l.initial.list ++ filter_map (hop_from l.paths l.from) (range_with_len 0 l.to)
