use Rattle.std.proofs.Common.{◌≡◌, ◌++◌, map, take}
use Rattle.std.specs.List.{enumerate_from}
use Rattle.replay_report.specs.Sessions.{named_switch}
use Rattle.replay_report.proofs.sessions.add_switches.Given as goal

abbrev pub invariant-loop-n : goal.invariant-loop-n
invariant-loop-n l = l.names ≡ l.fn.names ++ map named_switch (take l.n (enumerate_from 0 l.switches))
