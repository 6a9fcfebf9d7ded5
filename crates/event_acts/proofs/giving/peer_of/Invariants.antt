use Rattle.std.proofs.Common.{◌≡◌, drop}
use Rattle.policy_meaning.specs.Hops.{peer_of as peer_of_links}
use Rattle.event_acts.proofs.giving.peer_of.Given as goal

abbrev pub invariant-loop-link : goal.invariant-loop-link
invariant-loop-link l = peer_of_links l.links l.port ≡ peer_of_links (drop l.link-index l.links) l.port
