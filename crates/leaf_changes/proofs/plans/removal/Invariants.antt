use Rattle.std.proofs.Common.{◌≡◌, ◌++◌, drop}
use Rattle.member_state.specs.Plans.{ranks_of}
use Rattle.leaf_changes.proofs.plans.removal.Given as goal

-- what is there, and what is left gives the rest
abbrev pub invariant-loop-serial : goal.invariant-loop-serial
invariant-loop-serial l =
    l.ranks ++ ranks_of l.kept.state.table.entries (drop l.serial-index l.serial-items)
    ≡ ranks_of l.kept.state.table.entries l.serial-items
