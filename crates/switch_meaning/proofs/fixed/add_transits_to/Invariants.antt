use Rattle.std.proofs.Common.{◌≡◌, ◌++◌, drop}
use Rattle.std.specs.Prelude.{filter, map}
use Rattle.switch_meaning.specs.Fixed.{passes, transit, transits_to}
use Rattle.switch_meaning.specs.declared.wiring.SwitchPort.{SwitchPort}
use Rattle.switch_meaning.proofs.fixed.add_transits_to.Given as goal

-- the entries so far, and then those of the ends that are left
abbrev pub invariant-loop-end : goal.invariant-loop-end
invariant-loop-end l = l.entries ++ map (λ (s : SwitchPort). transit l.wiring s l.goal l.tag)
    (filter (λ (s : SwitchPort). passes l.wiring s l.goal) (drop l.end-index l.end-items))
    ≡ l.initial.entries ++ transits_to l.wiring l.switch l.goal
