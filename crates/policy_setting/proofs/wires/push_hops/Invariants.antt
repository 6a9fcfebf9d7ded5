use Rattle.std.proofs.Common.{◌≡◌, ◌++◌}
use Rattle.std.specs.Prelude.{filter_map}
use Rattle.std.specs.List.{range_with_len}
use Rattle.policy_setting.specs.Wirings.{hop}
use Rattle.policy_setting.proofs.wires.push_hops.Given as goal

abbrev pub invariant-loop-to : goal.invariant-loop-to
invariant-loop-to l = l.hops ≡ l.fn.hops ++ filter_map (hop l.paths l.from) (range_with_len 0 l.to)
