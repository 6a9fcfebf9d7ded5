use Rattle.std.proofs.Common.{◌≡◌, ◌++◌, map, take}
use Rattle.std.specs.List.{enumerate_from}
use Rattle.policy_serving.specs.Places.{dpid_of, switch_place}
use Rattle.policy_serving.proofs.endpoints.add_switches.Given as goal

abbrev pub invariant-loop-n : goal.invariant-loop-n
invariant-loop-n l =
    l.places ≡ l.fn.places ++ map (switch_place l.listen l.rounds (map dpid_of l.switches))
    (take l.n (enumerate_from 0 l.switches))
