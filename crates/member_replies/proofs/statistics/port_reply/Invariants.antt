use Rattle.std.proofs.Common.{◌≡◌, map, take}
use Rattle.std.specs.Prelude.{filter}
use Rattle.member_replies.specs.Statistics.{is_asked, told_of}
use Rattle.member_replies.proofs.statistics.port_reply.Given as goal

abbrev pub invariant-loop-port : goal.invariant-loop-port
invariant-loop-port l = l.ports ≡ map (told_of l.told) (filter (is_asked l.number) (take l.port-index l.port-items))
