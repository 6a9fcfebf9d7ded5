-- The order in which a member's ports are listed.
use Rattle.of10_actions.specs.Ports.{AreRising}
use Rattle.grants.specs.declared.grant.Grant.{Grant}

-- the ports that a member sees are listed in rising order
pub record SeesRising (g : Grant) : Type 0 where
  pub ports : AreRising g.ports
