use Rattle.std.proofs.Common.{◌≡◌, ◌++◌, take}
use Rattle.std.specs.Prelude.{map}
use Rattle.policy_meaning.specs.declared.network.Link.{Link}
use Rattle.policy_meaning.proofs.network.VirtualSwitch.ports.Given as goal

abbrev pub invariant-loop-link : goal.invariant-loop-link
invariant-loop-link l = l.ports ≡ l.self.outside ++ map (λ (link : Link). link.port) (take l.link-index l.self.links)
