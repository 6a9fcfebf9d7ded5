use Rattle.std.proofs.Common.{◌≡◌, ◌+◌, length}
use Rattle.policy_meaning.specs.Hops.{Fabric}
use Rattle.hop_rules.specs.Building.{CanBuild, IsRisen}
use Rattle.hop_rules.proofs.building.levels_below.Given as goal

abbrev pub invariant-loop-level : goal.invariant-loop-level
invariant-loop-level l = record {
  count : 1 + length l.rising.levels ≡ l._level;
  risen : (f : Fabric) → CanBuild f l.ends l.given l.sizes l.hops → IsRisen f l.ends (length l.given) l.rising;
}
