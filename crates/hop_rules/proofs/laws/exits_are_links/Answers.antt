use Rattle.hop_rules.proofs.Linked.{exits-linked, exits-once}
use Rattle.hop_rules.proofs.laws.exits_are_links.Goals as goal

pub returns-clause-links : goal.returns-clause-links
returns-clause-links c plan v = exits-linked plan v

pub returns-clause-places : goal.returns-clause-places
returns-clause-places c es v = exits-once es v
