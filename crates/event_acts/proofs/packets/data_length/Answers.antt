use Rattle.std.proofs.Common.{◌<◌, length, arith}
use Rattle.event_acts.proofs.PacketOuts.{data_short}
use Rattle.event_acts.proofs.packets.data_length.Goals as goal

pub overflow_cast-result : goal.overflow_cast-result
overflow_cast-result c =
    let short : length c.args.m.now.bytes < 65512 = data_short c.args.m.now c.requires.read c.requires.some in
    omega (arith, c.len.ensures)

pub returns-clause-short : goal.returns-clause-short
returns-clause-short c = data_short c.args.m.now c.requires.read c.requires.some
