use Rattle.std.proofs.Common.{◌≡◌, map, take}
use Rattle.machine_drafts.specs.Views.{member_of}
use Rattle.hyper_core.specs.Worlds.{table_in, table_of}
use Rattle.hyper_core.proofs.worlds.member_tables.Given as goal

abbrev pub invariant-loop-member : goal.invariant-loop-member
invariant-loop-member l =
    map table_in l.tables ≡ map table_of (map member_of (take l.member-index l.members))
