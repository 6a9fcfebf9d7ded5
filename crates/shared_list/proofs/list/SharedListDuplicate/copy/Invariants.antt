use Rattle.std.proofs.Common.{◌≡◌, map, take}
use Rattle.std.specs.Arc.{arc_value}
use Rattle.shared_list.proofs.list.SharedListDuplicate.copy.Given as goal

-- the runs so far have the items of those that they are copies of
abbrev pub invariant-loop-run : goal.invariant-loop-run
invariant-loop-run g l = map (λ r. arc_value r) l.runs ≡ map (λ r. arc_value r) (take l.run-index l.run-items)
