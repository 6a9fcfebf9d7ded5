use Rattle.std.proofs.Common.{◌∙◌, subst, sym, inl, le_trans}
use Rattle.sessions.specs.Streams.{Appends, AppendsSome}
use Rattle.sessions.specs.Writing.{HasWritten, IsReached}
use Rattle.sessions.proofs.Bytes.{after-err, after-ok, in_any_case}
use Rattle.sessions.proofs.Sent.{shows-more, shows-still, tells-more, written-more, written-part, written-told}
use Rattle.sessions.proofs.writer.send_all.Goals as goal

pub returns-then-is_err-clause-sent : goal.returns-then-is_err-clause-sent
returns-then-is_err-clause-sent g c =
    inl (written-part c.args.session.now (IsReached (g.C.Clock.may c.args.clock.now) (g.C.Clock.greatest c.loop.clock))
    (g.D.Desk.posts c.args.pass.now)
    (g.D.Desk.posts c.loop.pass) (g.D.Desk.posts c.take.new.pass)
    (g.K.Sink.held c.args.sink.now) (g.K.Sink.held c.loop.sink) (g.K.Sink.held c.write_all.new.sink)
    c.loop.invariant.written c.in-Message.message (rw c.in-Message.is at c.in_ok-message.ensures.posted)
    (subst (AppendsSome (g.K.Sink.held c.loop.sink) (g.K.Sink.held c.write_all.new.sink)) c.as_slice.ensures
    (after-err c.write_all.result (sym c.if-is_err.ensures.value) c.write_all.ensures.part)))

pub loop-preserved-in-Message : goal.loop-preserved-in-Message
loop-preserved-in-Message g c =
    let i = c.loop.invariant in
    let fine = sym c.if-is_err.ensures.value in
    let quiet = after-ok c.write_all.result fine c.write_all.ensures.quiet in
    record {
      written = written-more c.args.session.now
          (IsReached (g.C.Clock.may c.args.clock.now) (g.C.Clock.greatest c.loop.clock))
          (g.D.Desk.posts c.args.pass.now)
          (g.D.Desk.posts c.loop.pass) (g.D.Desk.posts c.take.new.pass)
          (g.K.Sink.held c.args.sink.now) (g.K.Sink.held c.loop.sink) (g.K.Sink.held c.write_all.new.sink) i.written
          c.in-Message.message (rw c.in-Message.is at c.in_ok-message.ensures.posted)
          (subst (Appends (g.K.Sink.held c.loop.sink) (g.K.Sink.held c.write_all.new.sink)) c.as_slice.ensures
          (after-ok c.write_all.result fine c.write_all.ensures.written));
      admits = c.take.ensures.pass;
      faults = quiet.0 ∙ i.faults;
      wants = quiet.1 ∙ i.wants;
      reliable = c.write_all.ensures.reliable ∙ i.reliable;
      last = i.last;
      no_more = i.no_more;
      shown = shows-still _ _ _ _ i.shown c.take.ensures.shown;
    }

pub returns-then-is_err-clause-shown : goal.returns-then-is_err-clause-shown
returns-then-is_err-clause-shown g c = shows-still _ _ _ _ c.loop.invariant.shown c.take.ensures.shown

pub returns-in-Closed-clause-shown : goal.returns-in-Closed-clause-shown
returns-in-Closed-clause-shown g c = shows-still _ _ _ _ c.loop.invariant.shown c.take.ensures.shown

pub returns-in_err-last-in-Empty-clause-memory : goal.returns-in_err-last-in-Empty-clause-memory
returns-in_err-last-in-Empty-clause-memory g c =
    let i = c.loop.invariant in
    let same = rw c.in-Empty.is at c.in_ok-message.ensures.posted in
    in_any_case c.from_residual-in_err-last-in-Empty.result
    (written-told c.args.session.now (g.D.Desk.posts c.args.pass.now) (g.K.Sink.held c.args.sink.now)
    (g.K.Sink.held c.flush.new.self)
    (IsReached (g.C.Clock.may c.args.clock.now) (g.C.Clock.greatest c.loop.clock))
    (IsReached (g.C.Clock.may c.args.clock.now) (g.C.Clock.greatest c.rest.new.clock))
    (λ n is. (le_trans is.0 c.rest.ensures.greatest, is.1)) (g.D.Desk.posts c.loop.pass)
    (g.D.Desk.posts c.rest.new.pass)
    (subst (λ z. HasWritten c.args.session.now
    (IsReached (g.C.Clock.may c.args.clock.now) (g.C.Clock.greatest c.loop.clock)) (g.D.Desk.posts c.args.pass.now)
    (g.K.Sink.held c.args.sink.now) z (g.D.Desk.posts c.loop.pass)) (sym c.flush.ensures.kept) i.written)
    (inl (c.in_err-last-in-Empty.ensures.memory ∙ same)))

pub loop-preserved : goal.loop-preserved
loop-preserved g c =
    let i = c.loop.invariant in
    let same = rw c.in-Empty.is at c.in_ok-message.ensures.posted in
    let fine = sym c.if-is_err-2.ensures.value in
    let these = IsReached (g.C.Clock.may c.args.clock.now) (g.C.Clock.greatest c.loop.clock) in
    let those = IsReached (g.C.Clock.may c.args.clock.now) (g.C.Clock.greatest c.rest.new.clock) in
    let h =
    subst (HasWritten c.args.session.now these (g.D.Desk.posts c.args.pass.now) (g.K.Sink.held c.args.sink.now)
    (g.K.Sink.held c.flush.new.self)) (sym same)
    (subst (λ z. HasWritten c.args.session.now these (g.D.Desk.posts c.args.pass.now) (g.K.Sink.held c.args.sink.now) z
    (g.D.Desk.posts c.loop.pass)) (sym c.flush.ensures.kept) i.written) in
    record {
      written = written-told c.args.session.now (g.D.Desk.posts c.args.pass.now) (g.K.Sink.held c.args.sink.now)
          (g.K.Sink.held c.flush.new.self) these those (λ n is. (le_trans is.0 c.rest.ensures.greatest, is.1))
          (g.D.Desk.posts c.take.new.pass) (g.D.Desk.posts c.rest.new.pass) h
          (tells-more _ those (λ n is. (is.0, i.no_more n is.1)) (g.D.Desk.posts c.take.new.pass)
          (g.D.Desk.posts c.rest.new.pass) c.in_ok-last-in-Empty.ensures.told);
      admits = c.rest.ensures.pass;
      faults = after-ok c.flush.result fine c.flush.ensures.quiet ∙ i.faults;
      wants = after-ok c.flush.result fine c.flush.ensures.sated ∙ i.wants;
      reliable = c.flush.ensures.reliable ∙ i.reliable;
      last = c.in_ok-last-in-Empty.ensures.last;
      no_more = λ n is. i.no_more n (c.rest.ensures.no_more n is);
      shown =
          shows-more (g.D.Desk.shows c.rest.new.pass) _ _ _
          (shows-still _ _ _ _ i.shown (λ n h. c.rest.ensures.still n (c.take.ensures.shown n h)))
          c.in_ok-last-in-Empty.ensures.shown;
    }
