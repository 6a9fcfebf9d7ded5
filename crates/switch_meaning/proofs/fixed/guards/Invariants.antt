use Rattle.std.proofs.Common.{◌≡◌, ◌++◌, drop}
use Rattle.std.specs.Prelude.{filter, map}
use Rattle.switch_meaning.specs.Fixed.{guard, guards, is_guarded}
use Rattle.switch_meaning.proofs.fixed.guards.Given as goal

-- the guards so far, and then those of the ports that are left
abbrev pub invariant-loop-o : goal.invariant-loop-o
invariant-loop-o l = l.entries ++ map guard (filter (is_guarded l.switch) (drop l.o-index l.o-items))
    ≡ guards l.wiring l.switch
