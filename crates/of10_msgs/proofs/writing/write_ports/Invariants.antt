use Rattle.std.proofs.Common.{◌≡◌, ◌++◌, All, take}
use Rattle.std.specs.List.{flat_map}
use Rattle.of10_msgs.specs.Ranges.{PortFits}
use Rattle.of10_msgs.specs.Spelling.{port_bytes}
use Rattle.of10_msgs.proofs.writing.write_ports.Given as goal

abbrev pub invariant-loop-port : goal.invariant-loop-port
invariant-loop-port l = record {
  written : l.out ≡ l.fn.out ++ flat_map port_bytes (take l.port-index l.port-items);
  types : All PortFits (take l.port-index l.port-items);
}
