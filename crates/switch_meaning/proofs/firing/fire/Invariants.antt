use Rattle.std.proofs.Common.{◌≡◌, drop}
use Rattle.switch_meaning.specs.Firing.{fire, both_fired}
use Rattle.switch_meaning.proofs.firing.fire.Given as goal

-- what was done so far, and then what the actions that are left do, is what all do
abbrev pub invariant-loop-action : goal.invariant-loop-action
invariant-loop-action l = both_fired l.fired (fire (drop l.action-index l.actions) l.header)
    ≡ fire l.actions l.fn.header
