use Rattle.std.proofs.Common.{◌≡◌, ◌++◌}
use Rattle.std.specs.Prelude.{filter_map, flat_map}
use Rattle.std.specs.List.{range_with_len}
use Rattle.policy_setting.specs.Wirings.{hop}
use Rattle.policy_setting.proofs.wires.hops.Given as goal

abbrev pub invariant-loop-from : goal.invariant-loop-from
invariant-loop-from l = l.hops ≡ flat_map (λ from. filter_map (hop l.paths from) (range_with_len 0 l.count))
    (range_with_len 0 l.from)
