use Rattle.std.proofs.Common.{◌≡◌, map, take}
use Rattle.alg_priority.specs.Levels.{capped}
use Rattle.policy_meaning.specs.Fitting.{levels_of}
use Rattle.policy_meaning.specs.Switches.{SwitchOf}
use Rattle.composed_tables.proofs.rules.sizes.Given as goal

abbrev pub invariant-loop-x : goal.invariant-loop-x
invariant-loop-x l = l.sizes ≡ map (λ (x : SwitchOf). capped (levels_of l.network.tables x.expr))
    (take l.x-index l.x-items)
