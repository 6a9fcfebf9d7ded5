use Rattle.std.proofs.Common.{◌≡◌, ◌+◌, ◌*◌, ◌≤◌, drop}
use Rattle.std.specs.Prelude.{max}
use Rattle.alg_priority.specs.Levels.{capped}
use Rattle.policy_meaning.specs.Hops.{hop_size, peers_size}
use Rattle.policy_meaning.specs.Networks.{fabric_of}
use Rattle.policy_meaning.proofs.fabric.+sizes.Given as goal

abbrev pub decreases-hop_size : goal.decreases-hop_size
decreases-hop_size l = 2 * l.hops

abbrev pub decreases-peers_size : goal.decreases-peers_size
decreases-peers_size l = 2 * l.hops + 1

-- what is left can only make the greatest so far greater
abbrev pub invariant-peers_size-loop-link : goal.invariant-peers_size-loop-link
invariant-peers_size-loop-link l =
    (1 ≤ l.greatest)
    × (max l.greatest (capped (peers_size (hop_size (fabric_of l.network) l.hops) (drop l.link-index l.link-items)))
    ≡ capped (peers_size (hop_size (fabric_of l.network) l.hops) l.link-items))
