use Rattle.std.proofs.Common.{[]}
use Rattle.of10_msgs.specs.Ranges.{PortFits}
use Rattle.of10_msgs.specs.Spelling.{port_bytes}
use Rattle.of10_msgs.specs.declared.message.PhyPort.{PhyPort}
use Rattle.of10_msgs.proofs.Lengths.{all_more, written_more}
use Rattle.of10_msgs.proofs.writing.write_ports.Goals as goal

abbrev no_port : PhyPort
no_port = record {
  port_no = 0;
  hw_addr = 0;
  name = [];
  config = 0;
  state = 0;
  curr = 0;
  advertised = 0;
  supported = 0;
  peer = 0;
}

pub loop-port-preserved : goal.loop-port-preserved
loop-port-preserved c = record {
  written = written_more port_bytes c.args.out.now c.write_port.new.out c.loop-port.out c.as_slice-port-items.result.now
      c.loop-port.port-index no_port c.loop-port-test.true c.loop-port.invariant.written
      c.in_ok-write_port.ensures.written;
  types = all_more PortFits c.as_slice-port-items.result.now c.loop-port.port-index no_port c.loop-port-test.true
      c.loop-port.invariant.types c.in_ok-write_port.ensures.types;
}
