use Rattle.std.proofs.Common.{◌≡◌, drop}
use Rattle.std.specs.Prelude.{◌==◌, ◌&&◌, find}
use Rattle.switch_meaning.specs.Wirings.{outside_at}
use Rattle.switch_meaning.specs.declared.wiring.Outside.{Outside}
use Rattle.switch_meaning.proofs.wiring.Wiring.outside_at.Given as goal

-- the answer is that of the ports that are left
abbrev pub invariant-loop-o : goal.invariant-loop-o
invariant-loop-o l = find (λ (o : Outside). (o.v == l.v) && (o.port == l.port)) (drop l.o-index l.o-items)
    ≡ outside_at l.self l.v l.port
