use Rattle.std.proofs.Common.{◌≡◌, Some, take}
use Rattle.std.specs.Prelude.{map}
use Rattle.policy_meaning.specs.Hops.{node}
use Rattle.policy_meaning.specs.Networks.{fabric_of}
use Rattle.policy_meaning.proofs.fabric.at_each_port.Given as goal

abbrev pub invariant-loop-port : goal.invariant-loop-port
invariant-loop-port l = l.entering
    ≡ map (λ p. record { port = Some p; rules = node (fabric_of l.network) l.hops l.v p })
    (take l.port-index l.port-items)
