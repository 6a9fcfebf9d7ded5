use Rattle.std.proofs.Common.{◌≡◌, ◌-◌, ◌≤◌, drop, length}
use Rattle.policy_expr.specs.Signs.{signs_from, signs_of}
use Rattle.policy_expr.specs.Reading.{run, start}
use Rattle.policy_expr.specs.Contexts.{state_of}
use Rattle.policy_expr.proofs.reader.read.Given as goal

abbrev pub invariant-loop-at : goal.invariant-loop-at
invariant-loop-at l = record {
  within : l.at ≤ length l.text;
  same : run l.members (length l.text) (state_of l.progress) (signs_from 0 l.at (drop l.at l.text))
      ≡ run l.members (length l.text) start (signs_of l.text);
  few : length l.progress.context.names ≤ l.at;
}

abbrev pub decreases-loop-at : goal.decreases-loop-at
decreases-loop-at l = length l.text - l.at
