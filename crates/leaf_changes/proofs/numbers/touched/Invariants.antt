use Rattle.std.proofs.Common.{◌≡◌, ◌++◌, drop, map}
use Rattle.member_table.specs.declared.change.Modified.{Modified}
use Rattle.leaf_changes.proofs.numbers.touched.Given as goal

-- what is there, and what is left gives the rest
abbrev pub invariant-loop-one : goal.invariant-loop-one
invariant-loop-one l =
    l.serials ++ map (λ (m : Modified). m.serial) (drop l.one-index l.one-items)
    ≡ (l.planned.change.removed ++ l.planned.dropped) ++ map (λ (m : Modified). m.serial) l.one-items
