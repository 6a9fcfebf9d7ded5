use Rattle.std.proofs.Common.{length, ap, arith, append_assoc}
use Rattle.of10_stats.specs.Spelling.{body_bytes}
use Rattle.of10_stats.proofs.Lengths.{length_entries}
use Rattle.of10_stats.proofs.writing.write_body.Goals as goal

pub write_entries-requires : goal.write_entries-requires
write_entries-requires c =
    rw c.as_slice.ensures
    (omega (arith, length_entries c.in-Flow.entries, ap (λ b. length (body_bytes b)) c.in-Flow.is, c.requires))

pub returns-in_ok-extend_from_slice-in-Aggregate-2 :
    goal.returns-in_ok-extend_from_slice-in-Aggregate-2
returns-in_ok-extend_from_slice-in-Aggregate-2 c =
    rw (
      c.in-Aggregate.is,
      c.in_ok-extend_from_slice-in-Aggregate-2.ensures.extended,
      c.in_ok-extend_from_slice-in-Aggregate.ensures.extended,
      c.two_u64.ensures,
      c.two_u32.ensures,
    )
    (simp append_assoc)

pub returns-in_ok-extend_from_slice-in-Table-5 : goal.returns-in_ok-extend_from_slice-in-Table-5
returns-in_ok-extend_from_slice-in-Table-5 c =
    rw (
      c.in-Table.is,
      c.in_ok-extend_from_slice-in-Table-5.ensures.extended,
      c.in_ok-extend_from_slice-in-Table-4.ensures.extended,
      c.in_ok-extend_from_slice-in-Table-3.ensures.extended,
      c.in_ok-extend_from_slice-in-Table-2.ensures.extended,
      c.in_ok-extend_from_slice-in-Table.ensures.extended,
      c.two_u32-in-Table.ensures,
      c.one_u32.ensures,
      c.two_u64-in-Table.ensures,
    ) (simp append_assoc)
