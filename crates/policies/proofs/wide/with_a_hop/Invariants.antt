use Rattle.std.proofs.Common.{◌≡◌, map, take}
use Rattle.std.specs.List.{enumerate_from}
use Rattle.policies.specs.Widths.{over_hop, number_at}
use Rattle.policies.proofs.wide.with_a_hop.Given as goal

abbrev pub invariant-loop-v : goal.invariant-loop-v
invariant-loop-v l = l.next.items ≡ map (over_hop l.topology l.sizes (number_at l.needed))
    (take l.v (enumerate_from 0 l.virtuals))
