use Rattle.std.proofs.Common.{◌≡◌, ◌++◌, take}
use Rattle.std.specs.Prelude.{flat_map}
use Rattle.switch_meaning.specs.Fixed.{transits_to}
use Rattle.switch_meaning.proofs.fixed.add_transits.Given as goal

-- the entries of the ports so far
abbrev pub invariant-loop-goal : goal.invariant-loop-goal
invariant-loop-goal l = l.entries ≡ l.initial.entries ++ flat_map (transits_to l.wiring l.switch)
    (take l.goal-index l.goal-items)
