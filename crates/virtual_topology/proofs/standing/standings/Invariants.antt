use Rattle.std.proofs.Common.{◌≡◌, map, take, List}
use Rattle.std.specs.List.{enumerate_from}
use Rattle.virtual_topology.specs.Made.{standing_of}
use Rattle.virtual_topology.specs.Wires.{Joint, both_ways}
use Rattle.virtual_topology.proofs.standing.standings.Given as goal

abbrev pub invariant-loop-number : goal.invariant-loop-number
invariant-loop-number l =
    (cables : List Joint) → l.cable_ways ≡ both_ways cables
    → l.standings.items ≡ map (standing_of l.known cables l.outside) (take l.number (enumerate_from 0 l.virtuals))
