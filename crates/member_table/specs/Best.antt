-- The entry that a header meets.
use Rattle.std.specs.Prelude.{List, Option}
use Rattle.of10_match.specs.Fields.{HeaderOf}
use Rattle.of10_match.specs.Highest.{highest}
use Rattle.of10_match.specs.Matching.{holds}
use Rattle.member_table.specs.declared.entry.Entry.{Entry}

-- the entry of the highest rank that holds the header
abbrev pub best_entry : List Entry → HeaderOf → Option Entry
best_entry es h = highest (λ (e : Entry). holds e.normal h) (λ (e : Entry). e.rank) es
