use Rattle.std.proofs.Common.{◌≡◌, take}
use Rattle.std.specs.Prelude.{filter_map}
use Rattle.policy_setting.specs.Networks.{link}
use Rattle.policy_setting.proofs.network.links.Given as goal

abbrev pub invariant-loop-port : goal.invariant-loop-port
invariant-loop-port l = l.links ≡ filter_map (link l.topology l.v) (take l.port-index l.ports)
