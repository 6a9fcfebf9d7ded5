use Rattle.std.proofs.Common.{◌≡◌, ◌++◌, drop}
use Rattle.std.specs.Prelude.{filter_map}
use Rattle.event_acts.specs.InsidePackets.{leaving_over}
use Rattle.event_acts.proofs.packet_parts.leave_all.Given as goal

abbrev pub invariant-loop-out : goal.invariant-loop-out
invariant-loop-out l =
    l.sent ++ filter_map (leaving_over l.topology l.bytes) (drop l.out-index l.outs)
    ≡ l.fn.sent ++ filter_map (leaving_over l.topology l.bytes) l.outs
