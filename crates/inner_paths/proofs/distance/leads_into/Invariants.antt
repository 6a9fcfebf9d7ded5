use Rattle.std.proofs.Common.{◌≡◌, drop}
use Rattle.inner_paths.specs.Tables.{leads_into}
use Rattle.inner_paths.proofs.distance.leads_into.Given as goal

abbrev pub invariant-loop-way : goal.invariant-loop-way
invariant-loop-way l = leads_into (drop l.way-index l.ways) l.layer l.from ≡ leads_into l.ways l.layer l.from
