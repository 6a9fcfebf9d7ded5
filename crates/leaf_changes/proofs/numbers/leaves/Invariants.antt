use Rattle.std.proofs.Common.{◌≡◌, ◌++◌, drop, filter, map}
use Rattle.leaf_changes.specs.Leaves.{leaf_at}
use Rattle.leaf_changes.specs.Touched.{has_kind}
use Rattle.leaf_changes.proofs.numbers.leaves.Given as goal

-- what is there, and what is left gives the rest
abbrev pub invariant-loop-serial : goal.invariant-loop-serial
invariant-loop-serial l =
    l.leaves ++ map (leaf_at l.member) (filter has_kind (drop l.serial-index l.serials))
    ≡ map (leaf_at l.member) (filter has_kind l.serials)
