use Rattle.std.proofs.Common.{◌≡◌, map, take}
use Rattle.hop_rules.specs.Building.{arrival_stand}
use Rattle.hop_rules.proofs.building.arrival_stands.Given as goal

abbrev pub invariant-loop-end : goal.invariant-loop-end
invariant-loop-end l = l.stands ≡ map (arrival_stand l.peers) (take l.end-index l.ends)
