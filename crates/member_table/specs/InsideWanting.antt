-- Which entries of a table are asked for.
use Rattle.std.specs.Prelude.{◌&&◌, Bool}
use Rattle.of10_match.specs.Matching.{covers}
use Rattle.member_table.specs.Tables.{outputs_to}
use Rattle.member_table.specs.declared.entry.Entry.{Entry}
use Rattle.member_table.specs.declared.wanted.Wanted.{Wanted}

-- the entry is one of those that are asked for
abbrev pub is_wanted : Wanted → Entry → Bool
is_wanted w e = covers w.filter e.normal && outputs_to w.port e
