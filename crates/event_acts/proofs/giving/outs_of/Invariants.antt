use Rattle.std.proofs.Common.{◌≡◌, ◌++◌, drop}
use Rattle.std.specs.Prelude.{filter_map}
use Rattle.of10_actions.specs.declared.effects.Out.{Out}
use Rattle.packet_map.specs.Sending.{emitted}
use Rattle.event_acts.proofs.giving.outs_of.Given as goal

abbrev pub invariant-loop-out : goal.invariant-loop-out
invariant-loop-out l =
    l.left ++ filter_map (λ (o : Out). emitted l.gate.v l.gate.ingress o.rewrite o.dest) (drop l.out-index l.out-items)
    ≡ filter_map (λ (o : Out). emitted l.gate.v l.gate.ingress o.rewrite o.dest) l.out-items
