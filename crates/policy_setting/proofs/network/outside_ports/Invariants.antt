use Rattle.std.proofs.Common.{◌≡◌, ◌++◌, map, drop}
use Rattle.std.specs.Prelude.{filter}
use Rattle.virtual_topology.specs.Wires.{Joint}
use Rattle.policy_setting.specs.Networks.{is_of}
use Rattle.policy_setting.proofs.network.outside_ports.Given as goal

abbrev pub invariant-loop-u : goal.invariant-loop-u
invariant-loop-u l = l.ports ++ map (λ (j : Joint). j.0.1) (filter (is_of l.v) (drop l.u-index l.joints))
    ≡ map (λ (j : Joint). j.0.1) (filter (is_of l.v) l.joints)
