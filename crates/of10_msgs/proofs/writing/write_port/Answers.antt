use Rattle.std.proofs.Common.{append_assoc}
use Rattle.of10_msgs.specs.Spelling.{port_bytes}
use Rattle.of10_msgs.proofs.writing.write_port.Goals as goal

pub returns-clause-written : goal.returns-clause-written
unfolding port_bytes
returns-clause-written c =
    rw (
      c.in_ok-extend_from_slice-5.ensures.extended,
      c.in_ok-extend_from_slice-4.ensures.extended,
      c.in_ok-extend_from_slice-3.ensures.extended,
      c.in_ok-extend_from_slice-2.ensures.extended,
      c.in_ok-extend_from_slice.ensures.extended,
      c.port_head.ensures,
      c.two_u32.ensures,
      c.two_u32-2.ensures,
      c.two_u32-3.ensures,
    ) (simp append_assoc)
