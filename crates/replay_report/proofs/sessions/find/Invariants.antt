use Rattle.std.proofs.Common.{◌≡◌, drop}
use Rattle.replay_report.specs.Sessions.{found_from}
use Rattle.replay_report.proofs.sessions.find.Given as goal

abbrev pub invariant-loop-at : goal.invariant-loop-at
invariant-loop-at l = found_from l.at l.name (drop l.at l.names) ≡ found_from 0 l.name l.names
