use Rattle.event_composes.specs.Kept.{IsComposedOf}
use Rattle.std.proofs.Common.{◌+◌, ◌≤◌}
use Rattle.machine_drafts.specs.Outcomes.{state_in}
use Rattle.event_composes.specs.Costs.{sum_below, turning_steps_at}
use Rattle.event_composes.specs.Turning.{AreTold, mixed_at, stood_in}
use Rattle.event_composes.proofs.turning.turn.Given as goal

-- what is kept is that of the state with so many members as the event leaves them, that was told, and so many steps
-- taken
abbrev pub invariant-loop-n : goal.invariant-loop-n
invariant-loop-n g l = record {
  of : IsComposedOf l.setup (mixed_at l.n l.draft) l.composed;
  told : AreTold l.draft.next_cookie l.initial.composed.tables l.composed.tables l.turned;
  steps : l.steps
      ≤ l.fn.steps + sum_below (turning_steps_at l.setup (stood_in l.draft) (state_in l.draft)) l.n;
}
