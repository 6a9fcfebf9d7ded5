use Rattle.machine_meaning.specs.WorkedPackets.{packet_leaves}
use Rattle.machine_meaning.proofs.worked.a_packet_leaves.Goals as goal

pub returns : goal.returns
returns c = packet_leaves
