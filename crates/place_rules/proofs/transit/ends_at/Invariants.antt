use Rattle.std.proofs.Common.{◌≡◌, take}
use Rattle.switch_meaning.specs.Fixed.{ends_at}
use Rattle.place_rules.proofs.transit.ends_at.Given as goal

-- the ends of the cables so far
abbrev pub invariant-loop-cable : goal.invariant-loop-cable
invariant-loop-cable l = l.ends ≡ ends_at l.switch (take l.cable-index l.cable-items)
