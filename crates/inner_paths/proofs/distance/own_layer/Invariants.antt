use Rattle.std.proofs.Common.{◌≡◌, ◌==◌, ℕ, ◌<◌, false, length, get_or}
use Rattle.inner_paths.proofs.distance.own_layer.Given as goal

abbrev pub invariant-loop-switch : goal.invariant-loop-switch
invariant-loop-switch l = (length l.layer.items ≡ l.switch)
    × ((s : ℕ) → s < l.switch → get_or l.layer.items s false ≡ (s == l.to))
