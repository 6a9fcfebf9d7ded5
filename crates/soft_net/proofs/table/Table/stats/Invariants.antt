use Rattle.std.proofs.Common.{◌≡◌, ◌++◌, drop, find}
use Rattle.std.specs.Prelude.{flat_map}
use Rattle.soft_net.specs.Entries.{has_serial}
use Rattle.soft_net.specs.InsideTables.{stat_if}
use Rattle.soft_net.proofs.table.Table.stats.Given as goal

-- what was told so far, and then what is told of those that are left
abbrev pub invariant-loop-serial : goal.invariant-loop-serial
invariant-loop-serial l = l.told ++ flat_map (λ s. stat_if (find (has_serial s) l.self.entries)) (drop l.serial-index l.serials)
    ≡ flat_map (λ s. stat_if (find (has_serial s) l.self.entries)) l.serials
