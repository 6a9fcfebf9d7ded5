use Rattle.std.proofs.Common.{◌≡◌, filter, map}
use Rattle.std.specs.Map.Iter.{deref}
use Rattle.soft_net.specs.Answers.{is_asked}
use Rattle.soft_net.proofs.switch.SoftSwitch.port_stats.Given as goal

-- the ports so far that are asked for
abbrev pub invariant-loop-stat : goal.invariant-loop-stat
invariant-loop-stat l = l.told ≡ filter (is_asked l.port_no) (map deref l.yielded)
