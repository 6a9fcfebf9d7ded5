use Rattle.std.proofs.Common.{◌≡◌, map, take}
use Rattle.std.specs.List.{enumerate_from}
use Rattle.policy_expr.specs.Policy.{policy_of}
use Rattle.policy_setting.specs.Settings.{numbered_switch}
use Rattle.policy_setting.proofs.settings.switches.Given as goal

abbrev pub invariant-loop-v : goal.invariant-loop-v
invariant-loop-v l = l.list ≡ map (numbered_switch l.topology (map policy_of l.exprs) l.seen)
    (take l.v (enumerate_from 0 l.virtuals))
