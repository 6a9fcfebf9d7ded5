use Rattle.std.proofs.Common.{◌≡◌, map, take}
use Rattle.std.specs.List.{enumerate_from}
use Rattle.policy_setting.specs.Settings.{physical}
use Rattle.policy_setting.proofs.settings.physical.Given as goal

abbrev pub invariant-loop-number : goal.invariant-loop-number
invariant-loop-number l = l.list ≡ map (physical l.up) (take l.number (enumerate_from 0 l.items))
