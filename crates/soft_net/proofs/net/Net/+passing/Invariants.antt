use Rattle.std.proofs.Common.{◌≡◌, ◌+◌, ◌*◌}
use Rattle.soft_net.specs.Nets.{all_go, both, taken_up}
use Rattle.soft_net.proofs.net.Net.+passing.Given as goal

abbrev pub decreases-take_up : goal.decreases-take_up
decreases-take_up l = 3 * l.turns

abbrev pub decreases-go : goal.decreases-go
decreases-go l = 3 * l.turns + 1

abbrev pub decreases-spread : goal.decreases-spread
decreases-spread l = 3 * l.turns + 2

-- what was appended is what the packets so far come to
abbrev pub invariant-spread-loop-packet : goal.invariant-spread-loop-packet
invariant-spread-loop-packet l =
    l.all ≡ both l.initial.all (all_go l.self.plan (taken_up l.self l.turns) l.switch l.yielded)
