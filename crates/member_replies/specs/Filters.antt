-- Which entries statistics are asked for.
use Rattle.std.specs.Prelude.{ℕ, Bool, ◌==◌, ◌||◌, ◌&&◌, List, filter}
use Rattle.of10_match.specs.Matching.{covers}
use Rattle.of10_match.specs.Wildcards.{normal_of}
use Rattle.member_table.specs.Tables.{outputs_to}
use Rattle.member_table.specs.declared.entry.Entry.{Entry}
use Rattle.member_replies.specs.declared.filter.Filter.{Filter}

-- the filter of a request: its match as it is read, its table and its port
abbrev pub filter_of : List ℕ → ℕ → ℕ → Filter
filter_of m table_id out_port = record { normal = normal_of m; table_id = table_id; out_port = out_port }

-- the number is that of the one table, or of all tables
abbrev pub is_the_table : ℕ → Bool
is_the_table table_id = (table_id == 0) || (table_id == 0xff)

-- the filter's match covers the entry's, and the entry has an OUTPUT to the port that is asked for
abbrev pub is_listed : Filter → Entry → Bool
is_listed f e = is_the_table f.table_id && (covers f.normal e.normal && outputs_to f.out_port e)

-- the entries that a filter lists, in the table's order
abbrev pub listed : Filter → List Entry → List Entry
listed f es = filter (is_listed f) es
