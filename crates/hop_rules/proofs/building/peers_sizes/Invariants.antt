use Rattle.std.proofs.Common.{◌≡◌, map, take}
use Rattle.hop_rules.specs.Building.{given_size}
use Rattle.hop_rules.proofs.building.peers_sizes.Given as goal

abbrev pub invariant-loop-one : goal.invariant-loop-one
invariant-loop-one l = l.greatest.items ≡ map (given_size l.sizes) (take l.one-index l.given)
