use Rattle.std.proofs.Common.{[], arith}
use Rattle.of10_msgs.specs.Spelling.{port_bytes}
use Rattle.of10_msgs.specs.declared.message.PhyPort.{PhyPort}
use Rattle.of10_msgs.proofs.Lengths.{length_more}
use Rattle.of10_msgs.proofs.writing.ports_length.Goals as goal

abbrev no_port : PhyPort
no_port = record {
  port_no = 0;
  hw_addr = 0;
  name = [];
  config = 0;
  state = 0;
  curr = 0;
  advertised = 0;
  supported = 0;
  peer = 0;
}

pub loop-port-preserved : goal.loop-port-preserved
loop-port-preserved c =
    let more = length_more port_bytes c.as_slice-port-items.result.now c.loop-port.port-index no_port
    c.loop-port-test.true in
    omega (arith, c.port_length.ensures, more, c.saturating_add-total.ensures, c.loop-port.invariant)
