use Rattle.std.proofs.Common.{◌≡◌, drop}
use Rattle.replay_report.specs.Sessions.{virtual_from}
use Rattle.replay_report.proofs.sessions.find_virtual.Given as goal

abbrev pub invariant-loop-v : goal.invariant-loop-v
invariant-loop-v l = virtual_from l.v l.name (drop l.v l.virtuals) ≡ virtual_from 0 l.name l.virtuals
