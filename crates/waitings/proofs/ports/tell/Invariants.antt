use Rattle.std.proofs.Common.{◌≡◌, drop}
use Rattle.std.specs.Prelude.{filter_map, fold}
use Rattle.waitings.specs.Ports.{told_of, with_told}
use Rattle.waitings.proofs.ports.tell.Given as goal

abbrev pub invariant-loop-stat : goal.invariant-loop-stat
invariant-loop-stat l =
    fold with_told l.known.items (filter_map (told_of l.topology l.switch l.v) (drop l.stat-index l.stats))
    ≡ fold with_told l.fn.told (filter_map (told_of l.topology l.switch l.v) l.stats)
