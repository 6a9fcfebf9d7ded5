use Rattle.std.proofs.Common.{◌≡◌, ◌++◌, map, take}
use Rattle.hop_rules.specs.Nodes.{arrived}
use Rattle.hop_rules.proofs.turning.add_arrived.Given as goal

abbrev pub invariant-loop-id : goal.invariant-loop-id
invariant-loop-id l = l.lost.items ≡ l.fn.lost.items ++ map (arrived l.place) (take l.id-index l.gone)
