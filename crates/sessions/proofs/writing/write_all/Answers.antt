use Rattle.std.proofs.Common.{◌∙◌}
use Rattle.sessions.proofs.Bytes.{appends-first}
use Rattle.sessions.proofs.writing.write_all.Goals as goal

pub loop-written-preserved : goal.loop-written-preserved
loop-written-preserved g c = let i = c.loop-written.invariant in let e = c.in_ok-written.ensures in record {
  faults = e.quiet ∙ i.faults;
  wants = e.sated ∙ i.wants;
  reliable = c.write.ensures.reliable ∙ i.reliable;
  written = appends-first (g.K.Sink.held c.args.sink.now) (g.K.Sink.held c.loop-written.sink)
      (g.K.Sink.held c.write.new.self) c.args.bytes.now c.loop-written.written c.in_ok-written.field-0 i.written
      e.bytes;
}
