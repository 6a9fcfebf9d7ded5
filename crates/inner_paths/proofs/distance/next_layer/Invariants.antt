use Rattle.std.proofs.Common.{◌≡◌, ℕ, ◌<◌, false, length, get_or}
use Rattle.inner_paths.specs.Tables.{leads_into}
use Rattle.inner_paths.proofs.distance.next_layer.Given as goal

abbrev pub invariant-loop-switch : goal.invariant-loop-switch
invariant-loop-switch l = (length l.next.items ≡ l.switch)
    × ((s : ℕ) → s < l.switch → get_or l.next.items s false ≡ leads_into l.ways l.layer s)
