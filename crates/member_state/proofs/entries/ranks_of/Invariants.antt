use Rattle.std.proofs.Common.{◌≡◌, ◌++◌, drop}
use Rattle.member_state.specs.Plans.{ranks_of}
use Rattle.member_state.proofs.entries.ranks_of.Given as goal

-- what is there, and what is left gives the rest
abbrev pub invariant-loop-serial : goal.invariant-loop-serial
invariant-loop-serial l = l.ranks ++ ranks_of l.table.table.entries (drop l.serial-index l.serials)
    ≡ ranks_of l.table.table.entries l.serials
