use Rattle.std.proofs.Common.{◌≡◌, ◌++◌, drop, map}
use Rattle.member_table.specs.declared.entry.Entry.{Entry}
use Rattle.leaf_changes.specs.Touched.{touched_in}
use Rattle.leaf_changes.proofs.anew.all_numbers.Given as goal

-- what is there, and what is left gives the rest
abbrev pub invariant-loop-place : goal.invariant-loop-place
invariant-loop-place l =
    l.serials ++ map (λ (e : Entry). e.serial) (drop l.place l.table.table.entries)
    ≡ touched_in l.planned ++ map (λ (e : Entry). e.serial) l.table.table.entries
