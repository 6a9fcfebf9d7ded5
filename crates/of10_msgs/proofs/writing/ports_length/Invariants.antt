use Rattle.std.proofs.Common.{◌≡◌, ◌-◌, ◌^◌, length, take}
use Rattle.std.specs.Prelude.{min}
use Rattle.std.specs.List.{flat_map}
use Rattle.of10_msgs.specs.Spelling.{port_bytes}
use Rattle.of10_msgs.proofs.writing.ports_length.Given as goal

abbrev pub invariant-loop-port : goal.invariant-loop-port
invariant-loop-port l = l.total ≡ min (length (flat_map port_bytes (take l.port-index l.port-items))) (2 ^ 64 - 1)
