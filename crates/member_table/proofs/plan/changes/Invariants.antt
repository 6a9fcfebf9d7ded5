use Rattle.std.proofs.Common.{◌≡◌, map, take}
use Rattle.member_table.proofs.plan.changes.Given as goal

abbrev pub invariant-loop-serial : goal.invariant-loop-serial
invariant-loop-serial l = l.list ≡ map (λ s. record { serial = s; actions = l.actions }) (take l.serial-index l.serials)
