use Rattle.std.proofs.Common.{length}
use Rattle.inner_paths.specs.Distances.{distance}
use Rattle.inner_paths.specs.Hops.{hop_between}
use Rattle.inner_paths.specs.Tables.{IsTable}
use Rattle.inner_paths.proofs.table.make_tables.Given as goal

abbrev pub invariant-loop-to : goal.invariant-loop-to
invariant-loop-to l = IsTable (length l.topology.switches) l.to (λ to from. distance l.topology from to)
    l.tables.distances
    × IsTable (length l.topology.switches) l.to (λ to from. hop_between l.topology from to) l.tables.hops
