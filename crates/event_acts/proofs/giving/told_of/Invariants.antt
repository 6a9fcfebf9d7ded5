use Rattle.std.proofs.Common.{◌≡◌, ◌++◌, drop}
use Rattle.std.specs.Prelude.{filter_map}
use Rattle.of10_actions.specs.declared.effects.Out.{Out}
use Rattle.policy_meaning.specs.Walk.{telling}
use Rattle.event_acts.proofs.giving.told_of.Given as goal

abbrev pub invariant-loop-out : goal.invariant-loop-out
invariant-loop-out l =
    l.told ++ filter_map (λ (o : Out). telling l.in_port o.rewrite o.dest) (drop l.out-index l.out-items)
    ≡ filter_map (λ (o : Out). telling l.in_port o.rewrite o.dest) l.out-items
