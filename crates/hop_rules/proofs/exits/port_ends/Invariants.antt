use Rattle.std.proofs.Common.{◌≡◌, take}
use Rattle.std.specs.Prelude.{filter_map}
use Rattle.hop_rules.specs.Links.{end}
use Rattle.hop_rules.proofs.exits.port_ends.Given as goal

abbrev pub invariant-loop-port : goal.invariant-loop-port
invariant-loop-port l = l.ends ≡ filter_map (end l.topology l.v) (take l.port-index l.port-items)
