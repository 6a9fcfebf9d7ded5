use Rattle.std.proofs.Common.{◌≡◌, ◌-◌, take, length}
use Rattle.sessions.specs.Streams.{Appends}
use Rattle.sessions.proofs.writing.write_all.Given as goal

abbrev pub invariant-loop-written : goal.invariant-loop-written
invariant-loop-written g l = record {
  faults : g.K.Sink.faults l.sink ≡ g.K.Sink.faults l.initial.sink;
  wants : g.K.Sink.wants l.sink ≡ g.K.Sink.wants l.initial.sink;
  reliable : g.K.Sink.is_reliable l.sink ≡ g.K.Sink.is_reliable l.initial.sink;
  written : Appends (g.K.Sink.held l.initial.sink) (g.K.Sink.held l.sink) (take l.written l.bytes);
}

abbrev pub decreases-loop-written : goal.decreases-loop-written
decreases-loop-written g l = length l.bytes - l.written
