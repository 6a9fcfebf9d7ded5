use Rattle.std.proofs.Common.{◌≡◌, ℕ, ◌+◌, ◌<◌, ◌≤◌, List, length, get_or, map, take}
use Rattle.std.specs.Prelude.{sum_by}
use Rattle.std.specs.List.{AllByRecursion}
use Rattle.hop_rules.specs.Handed.{GivenOf}
use Rattle.hop_rules.specs.Levels.{AreTurnedAt, IsEvent, IsMadeAt, no_node, node_cost, stand_at, told_at}
use Rattle.hop_rules.specs.Nodes.{NodeOf, held_at}
use Rattle.hop_rules.specs.Turns.{IsTold}
use Rattle.hop_rules.proofs.level.change_nodes.Given as goal

abbrev pub invariant-loop-place : goal.invariant-loop-place
invariant-loop-place g l = record {
  count : length l.tolds ≡ l.place;
  size : length l.nodes ≡ length l.fn.nodes;
  rest : (k : ℕ) → l.place ≤ k → get_or l.nodes k no_node ≡ get_or l.fn.nodes k no_node;
  read : map (λ (n : NodeOf). n.read) l.nodes ≡ map (λ (n : NodeOf). n.read) l.fn.nodes;
  made : (old : List GivenOf) → (before : List NodeOf) → IsEvent old l.given l.event
      → AllByRecursion (AreTurnedAt l.given before l.below l.turns) l.stands →
      (k : ℕ) → k < l.place → IsMadeAt old before (stand_at l.stands k) (held_at l.fn.nodes k)
      → IsMadeAt l.given l.below (stand_at l.stands k) (held_at l.nodes k);
  told : (k : ℕ) → k < l.place
      → IsTold (held_at l.fn.nodes k) (held_at l.nodes k) (told_at l.tolds k).turn (told_at l.tolds k).left;
  steps : (old : List GivenOf) → IsEvent old l.given l.event
      → l.steps ≤ l.fn.steps + sum_by (node_cost l.given l.below l.event l.turns) (take l.place l.stands);
}
