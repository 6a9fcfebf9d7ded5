use Rattle.std.proofs.Common.{◌≡◌, List, ℕ, length}
use Rattle.sessions.specs.Greetings.{to_switch}
use Rattle.sessions.specs.Opening.{HasPassed}
use Rattle.sessions.specs.Streams.{Appends}
use Rattle.sessions.proofs.opening.introduced.Given as goal

abbrev pub invariant-loop : goal.invariant-loop
invariant-loop g l = record {
  passed : List (List ℕ);
  came : HasPassed (g.S.Source.remaining l.fn.source) (g.S.Source.remaining l.source) l.fn.framer passed l.framer;
  many : length passed ≡ l.counter;
  written : Appends (g.K.Sink.held l.fn.sink) (g.K.Sink.held l.sink) (to_switch passed);
  source_faults : g.S.Source.faults l.source ≡ g.S.Source.faults l.fn.source;
  source_reliable : g.S.Source.is_reliable l.source ≡ g.S.Source.is_reliable l.fn.source;
  sink_faults : g.K.Sink.faults l.sink ≡ g.K.Sink.faults l.fn.sink;
  sink_wants : g.K.Sink.wants l.sink ≡ g.K.Sink.wants l.fn.sink;
  sink_reliable : g.K.Sink.is_reliable l.sink ≡ g.K.Sink.is_reliable l.fn.sink;
}
