use Rattle.std.proofs.Common.{◌≡◌, ◌++◌, take}
use Rattle.std.specs.Prelude.{filter_map}
use Rattle.policy_meaning.specs.Hops.{hop_rule}
use Rattle.policy_meaning.proofs.hops.add_hops.Given as goal

abbrev pub invariant-loop-b : goal.invariant-loop-b
invariant-loop-b l = l.rules ≡ l.fn.rules ++ filter_map (hop_rule l.size l.rewrite l.a) (take l.b-index l.b-items)
