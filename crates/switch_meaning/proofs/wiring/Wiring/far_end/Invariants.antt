use Rattle.std.proofs.Common.{◌≡◌, drop}
use Rattle.switch_meaning.specs.Wirings.{far_end, other_end}
use Rattle.switch_meaning.proofs.wiring.Wiring.far_end.Given as goal

-- the answer is that of the cables that are left
abbrev pub invariant-loop-cable : goal.invariant-loop-cable
invariant-loop-cable l = other_end (drop l.cable-index l.cable-items) l.at ≡ far_end l.self l.at
