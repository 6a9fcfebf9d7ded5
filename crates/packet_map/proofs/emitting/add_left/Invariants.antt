use Rattle.std.proofs.Common.{◌≡◌, ◌++◌, take}
use Rattle.std.specs.Prelude.{filter_map}
use Rattle.of10_actions.specs.Rewriting.{and_then}
use Rattle.of10_actions.specs.declared.effects.Out.{Out}
use Rattle.packet_map.specs.Sending.{emitted}
use Rattle.packet_map.proofs.emitting.add_left.Given as goal

abbrev pub invariant-loop-out : goal.invariant-loop-out
invariant-loop-out l = l.left ≡ l.fn.left ++ filter_map
    (λ (o : Out). emitted l.gate.v l.gate.ingress (and_then l.rewrite o.rewrite) o.dest) (take l.out-index l.out-items)
