use Rattle.std.proofs.Common.{◌≡◌, drop}
use Rattle.soft_net.specs.Tables.{without_all}
use Rattle.soft_net.proofs.table.Table.take_all.Given as goal

-- what is left after those that are left to take
abbrev pub invariant-loop-serial : goal.invariant-loop-serial
invariant-loop-serial l = without_all (drop l.serial-index l.serials) l.self ≡ without_all l.serials l.fn.self
