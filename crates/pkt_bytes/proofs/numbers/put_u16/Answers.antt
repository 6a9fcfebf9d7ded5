use Rattle.std.proofs.Common.{arith}
use Rattle.pkt_bytes.proofs.Places.{part_written}
use Rattle.pkt_bytes.proofs.numbers.put_u16.Goals as goal

pub returns-in-Some : goal.returns-in-Some
returns-in-Some c =
    rw c.in-Some.is (part_written c.args.place 2 c.in-Some.value c.args.bytes.now c.write_u16.new.buf (omega arith)
    c.write_u16.ensures)
