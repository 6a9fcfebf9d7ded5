use Rattle.std.proofs.Common.{◌∷◌, ◌++◌, ◌∙◌, [], subst, sym}
use Rattle.outside.specs.Outside.{Rose}
use Rattle.sessions.proofs.Bytes.{after-err, after-ok}
use Rattle.sessions.specs.Streams.{Appends, AppendsSome}
use Rattle.serving.proofs.Endings.{wrote-more, wrote-part}
use Rattle.serving.proofs.closing.write_rest.Goals as goal

pub returns-then-is_err-clause-ends : goal.returns-then-is_err-clause-ends
returns-then-is_err-clause-ends g c =
    let t = rw c.in-Ok-Some.field-0-is at c.in-Ok-Some.ensures.taken in (
      wrote-part g.H.Machine.Machine (g.H.Machine.Machine.meaning c.args.machine.now)
          (g.H.Machine.Machine.meaning c.loop.machine)
          (g.H.Machine.Machine.meaning c.next_line.new.machine) (g.K.Sink.held c.args.out.now)
          (g.K.Sink.held c.loop.out)
          (g.K.Sink.held c.write_line.new.out) c.loop.invariant.wrote c.in-Ok-Some.line t.0 (sym t.1) t.2
          (subst (λ z. AppendsSome (g.K.Sink.held c.loop.out) (g.K.Sink.held c.write_line.new.out) (z ++ 10 ∷ []))
          c.as_slice.ensures
          (after-err c.write_line.result (sym c.if-is_err.ensures.value) c.write_line.ensures.some)),
      subst (λ z. Rose z (g.K.Sink.faults c.write_line.new.out)) c.loop.invariant.quiet
          (after-err c.write_line.result (sym c.if-is_err.ensures.value) c.write_line.ensures.fault),
    )

pub loop-preserved : goal.loop-preserved
loop-preserved g c =
    let t = rw c.in-Ok-Some.field-0-is at c.in-Ok-Some.ensures.taken in
    record {
      wrote = wrote-more g.H.Machine.Machine (g.H.Machine.Machine.meaning c.args.machine.now)
          (g.H.Machine.Machine.meaning c.loop.machine)
          (g.H.Machine.Machine.meaning c.next_line.new.machine) (g.K.Sink.held c.args.out.now)
          (g.K.Sink.held c.loop.out)
          (g.K.Sink.held c.write_line.new.out) c.loop.invariant.wrote c.in-Ok-Some.line t.0 (sym t.1) t.2
          (subst (λ z. Appends (g.K.Sink.held c.loop.out) (g.K.Sink.held c.write_line.new.out) (z ++ 10 ∷ []))
          c.as_slice.ensures
          (after-ok c.write_line.result (sym c.if-is_err.ensures.value) c.write_line.ensures.written));
      quiet = after-ok c.write_line.result (sym c.if-is_err.ensures.value) c.write_line.ensures.quiet
          ∙ c.loop.invariant.quiet;
    }
