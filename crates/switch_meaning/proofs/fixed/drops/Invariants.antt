use Rattle.std.proofs.Common.{◌≡◌, ◌++◌, drop}
use Rattle.switch_meaning.specs.Fixed.{drops}
use Rattle.switch_meaning.proofs.fixed.drops.Given as goal

-- the entries so far, and then those of the ports that are left
abbrev pub invariant-loop-port : goal.invariant-loop-port
invariant-loop-port l = l.entries ++ drops l.wiring l.switch (drop l.port-index l.port-items)
    ≡ drops l.wiring l.switch l.ports
