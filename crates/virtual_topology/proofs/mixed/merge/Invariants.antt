use Rattle.std.proofs.Common.{◌≡◌, ℕ, ◌<◌, ◌≤◌, get_or}
use Rattle.virtual_topology.specs.Within.{merged}
use Rattle.virtual_topology.proofs.mixed.merge.Given as goal

abbrev pub invariant-loop-group : goal.invariant-loop-group
invariant-loop-group l = ((k : ℕ) → k < l.group-index
    → get_or l.groups k 0 ≡ merged l.from l.to (get_or l.initial.groups k 0))
    × ((k : ℕ) → l.group-index ≤ k → get_or l.groups k 0 ≡ get_or l.initial.groups k 0)
