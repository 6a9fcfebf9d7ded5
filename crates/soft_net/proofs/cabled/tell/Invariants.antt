use Rattle.std.proofs.Common.{◌≡◌, ◌++◌, map}
use Rattle.soft_net.specs.Nets.{answer_at}
use Rattle.soft_net.proofs.cabled.tell.Given as goal

-- what is told so far
abbrev pub invariant-loop-message : goal.invariant-loop-message
invariant-loop-message l = l.told ≡ l.initial.told ++ map (answer_at l.switch) l.yielded
