use Rattle.std.proofs.Common.{◌≡◌, ◌++◌, drop, map}
use Rattle.member_state.specs.Leaves.{leaf_by}
use Rattle.member_state.proofs.leaf.leaf_entries.Given as goal

-- what is there, and what is left gives the rest
abbrev pub invariant-loop-place : goal.invariant-loop-place
invariant-loop-place l =
    l.entries ++ map (leaf_by l.levels l.member l.ports) (drop l.place l.table.table.entries)
    ≡ map (leaf_by l.levels l.member l.ports) l.table.table.entries
