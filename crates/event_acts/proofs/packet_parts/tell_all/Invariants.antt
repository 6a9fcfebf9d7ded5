use Rattle.std.proofs.Common.{◌≡◌, ◌++◌, map, take}
use Rattle.machine_meaning.specs.Packets.{telling}
use Rattle.event_acts.proofs.packet_parts.tell_all.Given as goal

abbrev pub invariant-loop-one : goal.invariant-loop-one
invariant-loop-one l = l.letters ≡ l.fn.letters ++ map (telling l.total_len l.bytes) (take l.one-index l.told)
