use Rattle.std.proofs.Common.{◌≡◌, drop, []}
use Rattle.soft_net.specs.Counting.{put_zeros}
use Rattle.soft_net.proofs.switch.SoftSwitch.new.Given as goal

-- the ports so far, and then those that are left
abbrev pub invariant-loop-port : goal.invariant-loop-port
invariant-loop-port l = put_zeros l.counts.entries (drop l.port-index l.ports) ≡ put_zeros [] l.ports
