use Rattle.std.proofs.Common.{◌≡◌, ◌++◌, drop, map}
use Rattle.soft_net.specs.Nets.{hit_at}
use Rattle.soft_net.proofs.cabled.hit_all.Given as goal

-- what was appended, and then what is left
abbrev pub invariant-loop-hit : goal.invariant-loop-hit
invariant-loop-hit l =
    l.noted ++ map (hit_at l.switch) (drop l.hit-index l.hit-items)
    ≡ l.initial.noted ++ map (hit_at l.switch) l.hit-items
