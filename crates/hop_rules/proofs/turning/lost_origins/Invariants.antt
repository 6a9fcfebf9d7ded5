use Rattle.std.proofs.Common.{◌≡◌, ◌++◌, drop, map, take}
use Rattle.hop_rules.specs.Nodes.{own}
use Rattle.hop_rules.specs.Turns.{lost_there}
use Rattle.hop_rules.proofs.turning.lost_origins.Given as goal

abbrev pub invariant-loop-id : goal.invariant-loop-id
invariant-loop-id l = l.lost.items ≡ map own (take l.id-index l.gone)

abbrev pub invariant-loop-exit : goal.invariant-loop-exit
invariant-loop-exit l = l.lost.items ++ lost_there l.turns (drop l.exit-index l.exits)
    ≡ map own l.gone ++ lost_there l.turns l.exits
