use Rattle.std.proofs.Common.{◌≡◌}
use Rattle.std.specs.Prelude.{flat_map}
use Rattle.std.specs.List.{range_with_len}
use Rattle.place_rules.specs.Joined.{hops_from}
use Rattle.place_rules.proofs.joining.next_hops.Given as goal

-- those from the switches so far
abbrev pub invariant-loop-from : goal.invariant-loop-from
invariant-loop-from l = l.list ≡ flat_map (hops_from l.topology) (range_with_len 0 l.from)
