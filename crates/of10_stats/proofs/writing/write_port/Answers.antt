use Rattle.std.proofs.Common.{append_assoc}
use Rattle.of10_stats.specs.Spelling.{port_with}
use Rattle.of10_stats.proofs.writing.write_port.Goals as goal

pub returns : goal.returns
unfolding port_with
returns c =
    rw (
      c.in_ok-extend_from_slice-7.ensures.extended,
      c.in_ok-extend_from_slice-6.ensures.extended,
      c.in_ok-extend_from_slice-5.ensures.extended,
      c.in_ok-extend_from_slice-4.ensures.extended,
      c.in_ok-extend_from_slice-3.ensures.extended,
      c.in_ok-extend_from_slice-2.ensures.extended,
      c.in_ok-extend_from_slice.ensures.extended,
      c.port_start.ensures,
      c.two_u64.ensures,
      c.two_u64-2.ensures,
      c.two_u64-3.ensures,
      c.two_u64-4.ensures,
      c.two_u64-5.ensures,
      c.two_u64-6.ensures,
    ) (simp append_assoc)
