use Rattle.std.proofs.Common.{◌≡◌, ◌++◌, drop, map}
use Rattle.std.specs.Prelude.{filter_map}
use Rattle.member_state.specs.Leaves.{leaf_by}
use Rattle.leaf_changes.specs.Touched.{changed_in}
use Rattle.leaf_changes.proofs.coming.all_changed.Given as goal

-- what is there, and what is left gives the rest
abbrev pub invariant-loop-one : goal.invariant-loop-one
invariant-loop-one l =
    l.entries ++ map (leaf_by l.planned.levels l.member l.ports)
    (filter_map (changed_in l.kept.state.table.entries l.planned) (drop l.one-index l.one-items))
    ≡ map (leaf_by l.planned.levels l.member l.ports)
    (filter_map (changed_in l.kept.state.table.entries l.planned) l.one-items)
