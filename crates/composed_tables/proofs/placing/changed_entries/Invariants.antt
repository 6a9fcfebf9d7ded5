use Rattle.std.proofs.Common.{◌≡◌, ◌++◌, drop}
use Rattle.std.specs.Prelude.{flat_map}
use Rattle.std.specs.List.{enumerate_from}
use Rattle.composed_tables.specs.Placing.{changed_by, entries_by, entries_of_one}
use Rattle.composed_tables.proofs.placing.changed_entries.Given as goal

-- what is there, and then the entries of the virtual switches that are left
abbrev pub invariant-loop-v : goal.invariant-loop-v
invariant-loop-v l =
    l.entries ++ flat_map (entries_of_one l.wiring (changed_by l.part l.deltas) l.n)
    (enumerate_from l.v (drop l.v l.x-items))
    ≡ entries_by l.wiring l.switches (changed_by l.part l.deltas) l.n
