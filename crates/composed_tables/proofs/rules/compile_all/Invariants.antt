use Rattle.std.proofs.Common.{◌≡◌, ◌+◌, ◌≤◌, length, take}
use Rattle.std.specs.Prelude.{sum_by}
use Rattle.composed_tables.specs.Rules.{AreSound, AreTreesOf}
use Rattle.composed_tables.specs.Steps.{compile_steps}
use Rattle.composed_tables.proofs.rules.compile_all.Given as goal

abbrev pub invariant-loop-v : goal.invariant-loop-v
invariant-loop-v g l = record {
  count : length l.trees ≡ l.v;
  trees_are : AreTreesOf l.network l.trees;
  sound : AreSound l.trees;
  steps : l.steps ≤ l.fn.steps + sum_by (compile_steps l.network.tables) (take l.v l.network.switches);
}
