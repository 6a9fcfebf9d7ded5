use Rattle.std.proofs.Common.{◌≡◌, map, drop}
use Rattle.grants.specs.Rows.{first_of, action_row}
use Rattle.grants.proofs.actions.check_each_action.Given as goal

abbrev pub invariant-loop-action : goal.invariant-loop-action
invariant-loop-action l = first_of (map (action_row l.in_flow l.g l.v) (drop l.action-index l.actions))
    ≡ first_of (map (action_row l.in_flow l.g l.v) l.actions)
