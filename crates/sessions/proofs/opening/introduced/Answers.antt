use Rattle.std.proofs.Common.{◌≡◌, ◌<◌, ◌++◌, ◌∷◌, [], true, false, length, arith, refl, subst, sym, ◌∙◌, length-append}
use Rattle.std.proofs.lemmas.Result.{IfOk-weaker, err_from_is_err_and}
use Rattle.sessions.specs.Greetings.{echo, is_features, to_switch}
use Rattle.sessions.specs.InsideOpening.{IsNamed, IsNotNamed}
use Rattle.sessions.specs.Opening.{IsKnown, IsNoSwitch}
use Rattle.sessions.specs.Streams.{Appends}
use Rattle.sessions.proofs.Bytes.{appends-more, if-err-weaker}
use Rattle.sessions.proofs.Failing.{answer-fails, frame-fails, is-known, is-not-known}
use Rattle.sessions.proofs.Opens.{passed-more, passed-none, to-switch-more}
use Rattle.sessions.proofs.opening.introduced.Goals as goal

pub loop-init : goal.loop-init
loop-init g c = let o = c.in_ok-first_hello.ensures.opened in record {
  passed = [];
  came = passed-none (g.S.Source.remaining c.args.source.now) (g.S.Source.remaining c.first_hello.new.source)
      c.args.framer.now c.first_hello.new.framer o.hello o.first o.greets;
  many = refl;
  written = c.in_ok-send.ensures.written;
  source_faults = c.in_ok-first_hello.ensures.quiet;
  source_reliable = c.first_hello.ensures.reliable;
  sink_faults = c.in_ok-send.ensures.quiet.0;
  sink_wants = c.in_ok-send.ensures.quiet.1;
  sink_reliable = c.send.ensures.reliable;
}

pub returns-in_err-frame-clause-end : goal.returns-in_err-frame-clause-end
returns-in_err-frame-clause-end g c =
    let i = c.loop.invariant in
    let few : length i.passed < 64 = omega (arith, i.many, c.loop-test.true) in
    let p = err_from_is_err_and c.from_residual-in_err-frame.result c.from_residual-in_err-frame.ensures.1 in
    rw (p.1, p.2) (frame-fails c.args.dpids.now (g.K.Sink.faults c.args.sink.now) (g.K.Sink.faults c.loop.sink)
    (g.K.Sink.wants c.args.sink.now) (g.K.Sink.wants c.loop.sink) (g.K.Sink.is_reliable c.args.sink.now)
    (g.K.Sink.held c.args.sink.now) (g.S.Source.remaining c.args.source.now) (g.S.Source.remaining c.loop.source)
    (g.S.Source.remaining c.next_frame.new.source) (g.K.Sink.held c.loop.sink)
    c.args.framer.now c.loop.framer c.next_frame.new.framer i.passed i.came i.written
    (g.S.Source.faults c.args.source.now) (g.S.Source.faults c.loop.source)
    (g.S.Source.faults c.next_frame.new.source)
    (g.S.Source.is_reliable c.args.source.now) (g.S.Source.is_reliable c.loop.source) c.in_err-frame.field-0.0 few
    i.source_faults i.source_reliable c.in_err-frame.ensures.stop)

pub returns-then-is_features-clause-opened : goal.returns-then-is_features-clause-opened
returns-then-is_features-clause-opened g c =
    let i = c.loop.invariant in
    let few : length i.passed < 64 = omega (arith, i.many, c.loop-test.true) in
    let is : is_features c.in_ok-frame.frame ≡ true =
    subst (λ z. is_features z ≡ true) c.as_slice.ensures (sym c.is_features.ensures ∙ c.if-is_features.true) in
    IfOk-weaker c.named.result (IsNamed c.as_slice-then-is_features.result.now c.as_slice-then-is_features-2.result.now)
    (IsKnown (g.S.Source.remaining c.args.source.now) (g.S.Source.remaining c.next_frame.new.source) c.args.framer.now
    c.next_frame.new.framer (g.K.Sink.held c.args.sink.now) (g.K.Sink.held c.loop.sink) c.args.dpids.now)
    (λ greeted h. is-known c.args.dpids.now (g.K.Sink.faults c.args.sink.now) (g.K.Sink.faults c.loop.sink)
    (g.K.Sink.wants c.args.sink.now) (g.K.Sink.wants c.loop.sink) (g.K.Sink.is_reliable c.args.sink.now)
    (g.K.Sink.held c.args.sink.now) (g.S.Source.remaining c.args.source.now) (g.S.Source.remaining c.loop.source)
    (g.S.Source.remaining c.next_frame.new.source) (g.K.Sink.held c.loop.sink)
    c.args.framer.now c.loop.framer c.next_frame.new.framer i.passed i.came i.written c.in_ok-frame.frame
    c.as_slice-then-is_features-2.result.now c.as_slice-then-is_features.result.now greeted few
    c.in_ok-frame.ensures.frame is c.as_slice-then-is_features-2.ensures c.as_slice-then-is_features.ensures h)
    c.named.ensures.known

pub returns-then-is_features-clause-end : goal.returns-then-is_features-clause-end
returns-then-is_features-clause-end g c =
    let i = c.loop.invariant in
    let few : length i.passed < 64 = omega (arith, i.many, c.loop-test.true) in
    let is : is_features c.in_ok-frame.frame ≡ true =
    subst (λ z. is_features z ≡ true) c.as_slice.ensures (sym c.is_features.ensures ∙ c.if-is_features.true) in
    if-err-weaker c.named.result
    (IsNotNamed c.as_slice-then-is_features.result.now c.as_slice-then-is_features-2.result.now)
    (IsNoSwitch (g.S.Source.remaining c.args.source.now) (g.S.Source.remaining c.next_frame.new.source)
    c.args.framer.now c.next_frame.new.framer (g.K.Sink.held c.args.sink.now) (g.K.Sink.held c.loop.sink)
    c.args.dpids.now
    (g.S.Source.faults c.args.source.now) (g.S.Source.faults c.next_frame.new.source)
    (g.S.Source.is_reliable c.args.source.now)
    (g.K.Sink.faults c.args.sink.now) (g.K.Sink.faults c.loop.sink) (g.K.Sink.wants c.args.sink.now)
    (g.K.Sink.wants c.loop.sink) (g.K.Sink.is_reliable c.args.sink.now))
    (λ end h. is-not-known c.args.dpids.now (g.K.Sink.faults c.args.sink.now) (g.K.Sink.faults c.loop.sink)
    (g.K.Sink.wants c.args.sink.now) (g.K.Sink.wants c.loop.sink) (g.K.Sink.is_reliable c.args.sink.now)
    (g.K.Sink.held c.args.sink.now) (g.S.Source.remaining c.args.source.now) (g.S.Source.remaining c.loop.source)
    (g.S.Source.remaining c.next_frame.new.source) (g.K.Sink.held c.loop.sink)
    c.args.framer.now c.loop.framer c.next_frame.new.framer i.passed i.came i.written
    (g.S.Source.faults c.args.source.now) (g.S.Source.faults c.next_frame.new.source)
    (g.S.Source.is_reliable c.args.source.now)
    c.in_ok-frame.frame c.as_slice-then-is_features-2.result.now c.as_slice-then-is_features.result.now end few
    c.in_ok-frame.ensures.frame is c.as_slice-then-is_features-2.ensures c.as_slice-then-is_features.ensures h)
    c.named.ensures.unknown

pub returns-in_err-answer-clause-end : goal.returns-in_err-answer-clause-end
returns-in_err-answer-clause-end g c =
    let i = c.loop.invariant in
    let other : is_features c.in_ok-frame.frame ≡ false =
    subst (λ z. is_features z ≡ false) c.as_slice.ensures (sym c.is_features.ensures ∙ c.if-is_features.false) in
    let p = err_from_is_err_and c.from_residual-in_err-answer.result c.from_residual-in_err-answer.ensures.1 in
    rw (p.1, p.2) (answer-fails c.args.dpids.now (g.K.Sink.faults c.args.sink.now) (g.K.Sink.faults c.answer.new.sink)
    (g.K.Sink.wants c.args.sink.now) (g.K.Sink.wants c.answer.new.sink) (g.K.Sink.is_reliable c.args.sink.now)
    (g.K.Sink.held c.args.sink.now) (g.S.Source.remaining c.args.source.now) (g.S.Source.remaining c.loop.source)
    (g.S.Source.remaining c.next_frame.new.source) (g.K.Sink.held c.loop.sink)
    c.args.framer.now c.loop.framer c.next_frame.new.framer i.passed i.came i.written (g.K.Sink.held c.answer.new.sink)
    (g.S.Source.faults c.args.source.now) (g.S.Source.faults c.next_frame.new.source)
    (g.S.Source.is_reliable c.args.source.now)
    (g.K.Sink.faults c.loop.sink) (g.K.Sink.wants c.loop.sink) (g.K.Sink.is_reliable c.loop.sink) c.in_ok-frame.frame
    c.in_err-answer.field-0.0 i.sink_faults i.sink_wants i.sink_reliable c.in_ok-frame.ensures.frame other
    c.in_err-answer.ensures.end)

pub loop-preserved : goal.loop-preserved
loop-preserved g c =
    let i = c.loop.invariant in
    let f = c.in_ok-frame.frame in
    let other : is_features f ≡ false = subst (λ z. is_features z ≡ false) c.as_slice.ensures
    (sym c.is_features.ensures ∙ c.if-is_features.false) in
    record {
      passed = i.passed ++ f ∷ [];
      came = passed-more (g.S.Source.remaining c.args.source.now) (g.S.Source.remaining c.loop.source)
          (g.S.Source.remaining c.next_frame.new.source) c.args.framer.now c.loop.framer c.next_frame.new.framer
          i.passed i.came f c.in_ok-frame.ensures.frame other;
      many = omega (arith, length-append i.passed (f ∷ []), i.many);
      written = subst (Appends (g.K.Sink.held c.args.sink.now) (g.K.Sink.held c.answer.new.sink))
          (to-switch-more i.passed f)
          (appends-more (g.K.Sink.held c.args.sink.now) (g.K.Sink.held c.loop.sink) (g.K.Sink.held c.answer.new.sink)
          (to_switch i.passed) (echo f) i.written c.in_ok-answer.ensures.written);
      source_faults = c.in_ok-frame.ensures.quiet ∙ i.source_faults;
      source_reliable = c.next_frame.ensures.reliable ∙ i.source_reliable;
      sink_faults = c.in_ok-answer.ensures.quiet.0 ∙ i.sink_faults;
      sink_wants = c.in_ok-answer.ensures.quiet.1 ∙ i.sink_wants;
      sink_reliable = c.answer.ensures.reliable ∙ i.sink_reliable;
    }
