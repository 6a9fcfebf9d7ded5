use Rattle.std.proofs.Common.{◌≡◌, ◌++◌, take}
use Rattle.std.specs.Prelude.{filter_map}
use Rattle.of10_actions.specs.Rewriting.{and_then}
use Rattle.of10_actions.specs.declared.effects.Out.{Out}
use Rattle.policy_meaning.specs.Walk.{telling}
use Rattle.packet_map.proofs.emitting.add_told.Given as goal

abbrev pub invariant-loop-out : goal.invariant-loop-out
invariant-loop-out l = l.told ≡ l.fn.told ++ filter_map
    (λ (o : Out). telling l.in_port (and_then l.rewrite o.rewrite) o.dest) (take l.out-index l.out-items)
