use Rattle.std.proofs.Common.{◌≡◌}
use Rattle.serving.specs.Endings.{WroteRest}
use Rattle.serving.proofs.closing.write_rest.Given as goal

abbrev pub invariant-loop : goal.invariant-loop
invariant-loop g l = record {
  wrote : WroteRest g.H.Machine.Machine (g.H.Machine.Machine.meaning l.fn.machine)
      (g.H.Machine.Machine.meaning l.machine)
      (g.K.Sink.held l.fn.out) (g.K.Sink.held l.out);
  quiet : g.K.Sink.faults l.out ≡ g.K.Sink.faults l.fn.out;
}
