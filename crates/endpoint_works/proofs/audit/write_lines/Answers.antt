use Rattle.std.proofs.Common.{◌∷◌, ◌++◌, [], subst, sym, ◌∙◌}
use Rattle.outside.specs.Outside.{Rose}
use Rattle.sessions.proofs.Bytes.{after-err, after-ok}
use Rattle.sessions.specs.Streams.{Appends, AppendsSome}
use Rattle.endpoint_works.specs.Audits.{HasAudited}
use Rattle.endpoint_works.proofs.Audits.{audited-more, audited-part, audited-whole}
use Rattle.endpoint_works.proofs.audit.write_lines.Goals as goal

pub returns-then-is_err-clause-posted : goal.returns-then-is_err-clause-posted
returns-then-is_err-clause-posted g c =
    audited-part (g.D.Desk.posts c.args.pass.now) (g.D.Desk.posts c.loop.pass) (g.D.Desk.posts c.take.new.pass)
    (g.K.Sink.held c.args.out.now) (g.K.Sink.held c.loop.out) (g.K.Sink.held c.write_line.new.out)
    c.loop.invariant.audited
    c.in-Message.line (rw c.in-Message.is at c.in_ok-line.ensures.posted)
    (subst (λ z. AppendsSome (g.K.Sink.held c.loop.out) (g.K.Sink.held c.write_line.new.out) (z ++ 10 ∷ []))
    c.as_slice.ensures
    (after-err c.write_line.result (sym c.if-is_err.ensures.value) c.write_line.ensures.some))

pub loop-preserved-in-Message : goal.loop-preserved-in-Message
loop-preserved-in-Message g c = record {
  audited = audited-more (g.D.Desk.posts c.args.pass.now) (g.D.Desk.posts c.loop.pass) (g.D.Desk.posts c.take.new.pass)
      (g.K.Sink.held c.args.out.now) (g.K.Sink.held c.loop.out) (g.K.Sink.held c.write_line.new.out)
      c.loop.invariant.audited
      c.in-Message.line (rw c.in-Message.is at c.in_ok-line.ensures.posted)
      (subst (λ z. Appends (g.K.Sink.held c.loop.out) (g.K.Sink.held c.write_line.new.out) (z ++ 10 ∷ []))
      c.as_slice.ensures
      (after-ok c.write_line.result (sym c.if-is_err.ensures.value) c.write_line.ensures.written));
  faults = after-ok c.write_line.result (sym c.if-is_err.ensures.value) c.write_line.ensures.quiet
      ∙ c.loop.invariant.faults;
  admits = c.take.ensures.pass;
}

pub returns-then-is_err-clause-end : goal.returns-then-is_err-clause-end
returns-then-is_err-clause-end g c =
    subst (λ z. Rose z (g.K.Sink.faults c.write_line.new.out)) c.loop.invariant.faults
    (after-err c.write_line.result (sym c.if-is_err.ensures.value) c.write_line.ensures.fault)

pub returns-then-is_err-2-clause-posted : goal.returns-then-is_err-2-clause-posted
returns-then-is_err-2-clause-posted g c =
    let same = rw c.in-Empty.is at c.in_ok-line.ensures.posted in
    audited-whole (g.D.Desk.posts c.args.pass.now) (g.D.Desk.posts c.take.new.pass)
    (g.K.Sink.held c.args.out.now) (g.K.Sink.held c.loop.out) (g.K.Sink.held c.flush.new.self)
    (subst (HasAudited (g.D.Desk.posts c.args.pass.now) (g.K.Sink.held c.args.out.now) (g.K.Sink.held c.loop.out))
    (sym same) c.loop.invariant.audited) c.flush.ensures.kept

pub returns-then-is_err-2-clause-end : goal.returns-then-is_err-2-clause-end
returns-then-is_err-2-clause-end g c =
    subst (λ z. Rose z (g.K.Sink.faults c.flush.new.self)) c.loop.invariant.faults
    (after-err c.flush.result (sym c.if-is_err-2.ensures.value) c.flush.ensures.fault)
