use Rattle.std.proofs.Common.{◌∙◌}
use Rattle.covisor_proxy.proofs.Appending.{appends-more}
use Rattle.covisor_proxy.proofs.writing.write_all.Goals as goal

pub loop-written-preserved : goal.loop-written-preserved
loop-written-preserved g c = (
  c.in_ok-written.ensures.quiet ∙ c.loop-written.invariant.0,
  appends-more (g.K.Sink.held c.args.out.now) (g.K.Sink.held c.loop-written.out) (g.K.Sink.held c.write.new.self)
      c.args.bytes.now c.loop-written.written c.in_ok-written.field-0 c.loop-written.invariant.1
      c.in_ok-written.ensures.bytes,
)
