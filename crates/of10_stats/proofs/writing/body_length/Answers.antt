use Rattle.std.proofs.Common.{◌++◌, length, ap, sym, arith}
use Rattle.std.proofs.lemmas.List.{length-append}
use Rattle.byteorder.specs.Endian.{big_bytes}
use Rattle.of10_stats.specs.Spelling.{body_bytes}
use Rattle.of10_stats.proofs.Lengths.{length_entries, length_ports}
use Rattle.of10_stats.proofs.writing.body_length.Goals as goal

pub entries_length-requires : goal.entries_length-requires
entries_length-requires c =
    rw c.as_slice.ensures
    (omega (arith, length_entries c.in-Flow.entries, ap (λ b. length (body_bytes b)) c.in-Flow.is, c.requires))

pub overflow_mul-result : goal.overflow_mul-result
overflow_mul-result c =
    omega (arith, c.len.ensures, length_ports c.in-Port.ports, ap (λ b. length (body_bytes b)) c.in-Port.is, c.requires)

pub returns-in-Flow : goal.returns-in-Flow
returns-in-Flow c = rw (c.in-Flow.is, c.entries_length.ensures, c.as_slice.ensures)
    (sym (length_entries c.in-Flow.entries))

pub returns-in-Port : goal.returns-in-Port
returns-in-Port c = rw (c.in-Port.is, c.len.ensures) (sym (length_ports c.in-Port.ports))

pub returns-in-Table : goal.returns-in-Table
returns-in-Table c =
    let t = c.in-Table in
    rw (t.is, c.name_length.ensures)
    (omega (
      arith,
      length-append t.name
          (big_bytes 4 t.wildcards
          ++ (big_bytes 4 t.max_entries ++ (big_bytes 4 t.active ++ (big_bytes 8 t.lookup ++ big_bytes 8 t.matched)))),
    ))
