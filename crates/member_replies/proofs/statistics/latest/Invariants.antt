use Rattle.std.proofs.Common.{◌≡◌, take}
use Rattle.std.specs.Prelude.{fold}
use Rattle.member_replies.specs.Statistics.{later, unknown}
use Rattle.member_replies.proofs.statistics.latest.Given as goal

abbrev pub invariant-loop-stat : goal.invariant-loop-stat
invariant-loop-stat l = l.known ≡ fold (later l.port) (unknown l.port) (take l.stat-index l.told)
