use Rattle.std.proofs.Common.{◌≡◌, take}
use Rattle.std.specs.Prelude.{flat_map}
use Rattle.std.specs.List.{enumerate_from}
use Rattle.hop_rules.specs.Links.{port_ends}
use Rattle.hop_rules.proofs.exits.ends_among.Given as goal

abbrev pub invariant-loop-v : goal.invariant-loop-v
invariant-loop-v l = l.ends ≡ flat_map (port_ends l.topology) (take l.v (enumerate_from 0 l.virtuals))
