use Rattle.std.proofs.Common.{◌≡◌, map, take}
use Rattle.replay_report.specs.Reports.{fresh_for}
use Rattle.replay_report.proofs.player.streams.Given as goal

abbrev pub invariant-loop-name : goal.invariant-loop-name
invariant-loop-name l = l.streams ≡ map fresh_for (take l._name-index l.names)
