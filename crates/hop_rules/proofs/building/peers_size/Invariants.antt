use Rattle.std.proofs.Common.{◌≡◌, ◌≤◌, map, drop}
use Rattle.std.specs.Prelude.{max}
use Rattle.policy_meaning.specs.Hops.{peers_size}
use Rattle.hop_rules.specs.Building.{size_at}
use Rattle.hop_rules.specs.Links.{exit_link}
use Rattle.hop_rules.proofs.building.peers_size.Given as goal

abbrev pub invariant-loop-exit : goal.invariant-loop-exit
invariant-loop-exit l = record {
  positive : 1 ≤ l.greatest;
  greatest : max l.greatest (peers_size (size_at l.sizes) (map exit_link (drop l.exit-index l.exits)))
      ≡ peers_size (size_at l.sizes) (map exit_link l.exits);
}
