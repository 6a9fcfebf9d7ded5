use Rattle.std.proofs.Common.{◌≡◌, drop}
use Rattle.soft_net.specs.Passing.{bare, both_passed, done}
use Rattle.soft_net.proofs.passed.Passed.perform.Given as goal

-- what was done so far, and then what the actions that are left do, is what all do
abbrev pub invariant-loop-action : goal.invariant-loop-action
invariant-loop-action l = both_passed l.self (done (drop l.action-index l.actions) l.dress l.in_port l.frame)
    ≡ both_passed l.fn.self (done l.actions (bare l.frame) l.in_port l.frame)
