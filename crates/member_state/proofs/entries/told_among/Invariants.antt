use Rattle.std.proofs.Common.{◌≡◌, ◌++◌, drop, filter}
use Rattle.member_state.specs.Changes.{entries_of, is_told}
use Rattle.member_state.proofs.entries.told_among.Given as goal

-- what is there, and what is left gives the rest
abbrev pub invariant-loop-serial : goal.invariant-loop-serial
invariant-loop-serial l =
    l.entries ++ filter is_told (entries_of l.table.table.entries (drop l.serial-index l.serials))
    ≡ filter is_told (entries_of l.table.table.entries l.serials)
