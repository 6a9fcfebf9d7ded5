use Rattle.std.proofs.Common.{◌≡◌, drop, map}
use Rattle.member_table.specs.Tables.{TableOf}
use Rattle.member_state.proofs.Plans.{table_touched}
use Rattle.member_state.proofs.commit.touch_each.Given as goal

-- those that are left, touched, give what all give
abbrev pub invariant-loop-serial : goal.invariant-loop-serial
invariant-loop-serial l = table_touched (drop l.serial-index l.serials) l.now l.table.table
    ≡ table_touched l.serials l.now l.initial.table.table
