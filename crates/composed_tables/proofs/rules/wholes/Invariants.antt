use Rattle.std.proofs.Common.{◌≡◌, map, take}
use Rattle.policy_meaning.specs.Switches.{SwitchOf}
use Rattle.composed_tables.proofs.rules.wholes.Given as goal

abbrev pub invariant-loop-x : goal.invariant-loop-x
invariant-loop-x l = l.wholes ≡ map (λ (x : SwitchOf). x.whole) (take l.x-index l.x-items)
