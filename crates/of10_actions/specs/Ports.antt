-- The visible ports of a member.
use Rattle.std.specs.List.Sorted.{IsStrictlyIncreasing}
use Rattle.of10_actions.specs.declared.effects.PortView.{PortView}

-- both lists of visible ports rise
pub record AreRising (ports : PortView) : Type 0 where
  pub outside : IsStrictlyIncreasing ports.outside
  pub links : IsStrictlyIncreasing ports.links
