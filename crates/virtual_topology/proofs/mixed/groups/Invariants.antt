use Rattle.std.proofs.Common.{◌≡◌, ◌==◌, ℕ, ◌<◌, ◌≤◌, length, get_or, drop}
use Rattle.virtual_topology.specs.Faults.{are_joined}
use Rattle.virtual_topology.proofs.mixed.groups.Given as goal

abbrev pub invariant-loop-left : goal.invariant-loop-left
invariant-loop-left l = (l.left ≤ length l.links) × (length l.groups.items ≡ l.count)
    × ((a b : ℕ) → a < l.count → b < l.count
    → (get_or l.groups.items a 0 == get_or l.groups.items b 0) ≡ are_joined (drop l.left l.links) a b)

abbrev pub decreases-loop-left : goal.decreases-loop-left
decreases-loop-left l = l.left
