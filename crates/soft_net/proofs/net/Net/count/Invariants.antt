use Rattle.std.proofs.Common.{◌≡◌, drop}
use Rattle.soft_net.specs.Nets.{net_counted}
use Rattle.soft_net.proofs.net.Net.count.Given as goal

-- what was counted so far, and then what is left to count
abbrev pub invariant-loop-hit : goal.invariant-loop-hit
invariant-loop-hit l = net_counted (drop l.hit-index l.hits) l.self ≡ net_counted l.hits l.fn.self
