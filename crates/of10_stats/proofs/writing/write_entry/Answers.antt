use Rattle.std.proofs.Common.{append_assoc}
use Rattle.of10_stats.specs.Spelling.{entry_with}
use Rattle.of10_stats.proofs.writing.write_entry.Goals as goal

pub returns : goal.returns
unfolding entry_with
returns c =
    rw (
      c.in_ok-extend_from_slice-7.ensures.extended,
      c.in_ok-extend_from_slice-6.ensures.extended,
      c.in_ok-extend_from_slice-5.ensures.extended,
      c.in_ok-extend_from_slice-4.ensures.extended,
      c.in_ok-extend_from_slice-3.ensures.extended,
      c.in_ok-extend_from_slice-2.ensures.extended,
      c.in_ok-extend_from_slice.ensures.extended,
      c.entry_start.ensures,
      c.two_u32.ensures,
      c.ranks.ensures,
      c.two_u64.ensures,
      c.one_u64.ensures,
      c.length.ensures,
      c.as_slice.ensures,
    ) (simp append_assoc)
